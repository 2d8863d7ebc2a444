-- Each step of a sound tokenizer that does not rest is paid for, whatever the prices, and leaves it sound.
use Prim.Native.Nat.{ℕ, ◌+◌, ◌≤◌}
use mathlib.Core.Path.{◌≡◌}
use mathlib.Core.Bool.{true, false}
use mathlib.Core.List.{List}
use native.Mathlib.Omega.{arith}
use lib.Dec.{leb, eqb}
use borrow.Author.Tests.{ltb-false, eqb-true, lt-leb}
use Rattle.base.proofs.Choice.{case, or_cases}
use Rattle.base.specs.Range.{within}
use Rattle.base.proofs.Ranges.{within_is}
use Rattle.base.specs.Page.{byte_at}
use Rattle.base.specs.State.{done, nok, not_ascii, full, bad_call, asking, rests, mdx_expression_start, mdx_jsx_es_whitespace_inside_retried}
use Rattle.base.specs.declared.Move.{Move}
use Rattle.tokenizer.specs.Decision.{decision}
use Rattle.tokenizer.specs.Moved.{moved}
use Rattle.tokenizer.specs.Ranges.{esm}
use Rattle.tokenizer.specs.declared.Tokenizer.{Tokenizer}
use Rattle.scan_theorems.proofs.Parts.{parts, low, high}
use Rattle.scan_theorems.proofs.DecisionSinks.{decision_sinks}
use Rattle.scan_theorems.proofs.Price.{Prices, price, steps}
use Rattle.scan_theorems.proofs.Due.{due, due_esm}
use Rattle.scan_theorems.proofs.Tame.{Tame, tame, answers, stands}
use Rattle.scan_theorems.proofs.DecisionTame.{low_tame}
use Rattle.scan_theorems.proofs.TagFalls.{judged}
use Rattle.scan_theorems.proofs.Closed.{moved_in_range}
use Rattle.scan_theorems.proofs.Ahead.{Ahead, elsewhere, low_elsewhere}
use Rattle.scan_theorems.proofs.EsmDecision.{decision_falls}
use Rattle.scan_theorems.proofs.Sound.{Sound}

-- no state of an expression or a tag looks ahead
stands_low : (name : ℕ) → stands false name ≡ true → name ≤ mdx_jsx_es_whitespace_inside_retried
stands_low name h =
    or_cases _ (answers name) _ h
    (λ a. or_cases _ (within done nok name) _ a (λ e. omega (arith, (within_is done nok name e).1)) (λ e. omega (arith, (within_is not_ascii full name e).1)))
    (λ d. or_cases _ (eqb name asking) _ d (λ e. omega (arith, eqb-true name asking e)) (λ e. (within_is mdx_expression_start mdx_jsx_es_whitespace_inside_retried name e).1))

tame_elsewhere : (page : List ℕ) (t : Tokenizer) (m : Move) → Tame false m → Ahead page (moved t m).state (moved t m).at (moved t m).regs.saved
unfolding moved
tame_elsewhere page t m (tame h g) = elsewhere (low_elsewhere m.next (omega (arith, stands_low m.next h)))

module _ (p : Prices) (page : List ℕ) (t : Tokenizer) (s : Sound page t) (r : rests t.state ≡ false) where
  abbrev choice : Move
  choice = decision page t (byte_at page t.at)

  abbrev after : Tokenizer
  after = moved t choice

  -- a step is paid for and keeps what a look-ahead needs
  abbrev Good : Type 0
  Good = (due p page after + price p choice.marks ≤ due p page t) × Ahead page after.state after.at after.regs.saved

  runs : leb t.state bad_call ≡ false
  runs = lt-leb t.state bad_call (omega (arith, ltb-false t.state 32 r))

  tag_good : eqb t.job.construct esm ≡ false → Good
  tag_good c =
      let q = parts t s.range in
      let b = byte_at page t.at in
      let l = low t.job.construct t.state c q.state r in
      (judged p page t s.size c runs choice (decision_sinks p page t b q.regs.back l), tame_elsewhere page t choice (low_tame page t b q.regs.back q.heard l))

  esm_good : eqb t.job.construct esm ≡ true → Good
  unfolding due moved
  esm_good c =
      let q = parts t s.range in
      let h = high t.job.construct t.state c q.state r in
      let d = decision_falls p page t c s.size (omega (arith, q.at, s.size)) s.ahead h in
      (omega (arith, d.less, due_esm p page t.job.construct t.state t.at t.regs c runs), d.kept)

  good : Good
  good = case Good (eqb t.job.construct esm) esm_good tag_good

pub falls : (p : Prices) (page : List ℕ) (t : Tokenizer) → Sound page t → rests t.state ≡ false
    → due p page (moved t (decision page t (byte_at page t.at))) + price p (decision page t (byte_at page t.at)).marks ≤ due p page t
falls p page t s r = (good p page t s r).0

pub sound_moved : (page : List ℕ) (t : Tokenizer) → Sound page t → rests t.state ≡ false → Sound page (moved t (decision page t (byte_at page t.at)))
unfolding moved
sound_moved page t s r =
    record {
      range = moved_in_range page t (byte_at page t.at) s.range r;
      size = s.size;
      ahead = (good steps page t s r).1;
    }
