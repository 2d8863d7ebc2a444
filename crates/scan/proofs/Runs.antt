-- How a run unfolds, and the invariant of the loop that makes it.
use Prim.Native.Nat.{ℕ, zero, suc, ◌+◌, ◌-◌, ◌≤◌, ◌<◌}
use native.Mathlib.Omega.{arith}
use native.Mathlib.Numerals.{sub-one}
use mathlib.Core.Path.{◌≡◌, refl, sym, ap, ◌∙◌}
use mathlib.Core.Bool.{Bool, true, false}
use mathlib.Core.List.{List, [], ◌++◌}
use lib.Dec.{eqb}
use lib.ListN.{length}
use borrow.Author.Tests.{lt-ltb, le-ltb}
use Rattle.base.specs.Byte.{tab, line_feed}
use Rattle.base.specs.If.{when◌then◌else◌}
use Rattle.base.proofs.Choice.{case}
use Rattle.base.specs.Page.{byte_at}
use Rattle.base.specs.State.{rests}
use Rattle.base.specs.Decide.{eat, eat_with}
use Rattle.base.specs.declared.Effect.{Effect}
use Rattle.base.specs.declared.Effect.TheVariants.{Keep}
use Rattle.base.specs.declared.InTab.{InTab}
use Rattle.base.specs.declared.Marks.TheVariants.{Nothing}
use Rattle.base.specs.declared.Move.{Move}
use Rattle.page.specs.declared.line.Line.{Line}
use Rattle.scan.specs.declared.Scan.{Scan}
use Rattle.scan.specs.Lines.{lines_after, lines_of}
use Rattle.tokenizer.specs.Decision.{decision}
use Rattle.events.specs.Words.{written}
use Rattle.events.proofs.Laws.{count_is, written_append, written_none}
use Rattle.scan.specs.Scan.{choice, carried_out, lines_step, moved_scan, step_scan, step_events, run_scan, run_events, run_words}
use Rattle.scan.specs.Inner.{Fit}
use Rattle.scan.specs.Gliding.{Glides, counted_on, passed_lines}
use Rattle.scan.proofs.Steps.{none, fit_step}

-- ---- how a run unfolds

module _ (page : List ℕ) (s : Scan) where
  pub run_rest : (k : ℕ) → rests s.tokenizer.state ≡ true → run_scan page k s ≡ s
  unfolding run_scan when◌then◌else◌
  run_rest zero e = refl
  run_rest (suc k) e = rw e

  pub events_rest : (k : ℕ) → rests s.tokenizer.state ≡ true → run_events page k s ≡ []
  unfolding run_events when◌then◌else◌
  events_rest zero e = refl
  events_rest (suc k) e = rw e

  pub run_more : (k : ℕ) → 0 < k → rests s.tokenizer.state ≡ false → run_scan page k s ≡ run_scan page (k - 1) (step_scan page s)
  unfolding run_scan when◌then◌else◌
  run_more zero h e = absurd (omega arith)
  run_more (suc k) h e = rw (sub-one, e)

  pub events_more : (k : ℕ) → 0 < k → rests s.tokenizer.state ≡ false → run_events page k s ≡ step_events page s ++ run_events page (k - 1) (step_scan page s)
  unfolding run_events when◌then◌else◌
  events_more zero h e = absurd (omega arith)
  events_more (suc k) h e = rw (sub-one, e)

  -- a step counts its events
  pub step_count : (step_scan page s).used ≡ s.used + length (step_events page s)
  unfolding step_scan step_events
  step_count = ap (λ (n : ℕ). s.used + n) (sym (count_is (carried_out s (choice page s)).marks _ _))

  -- the words of a step, and of the run after it, are the words of the run
  pub words_more : (words : List ℕ) (k : ℕ) → 0 < k → rests s.tokenizer.state ≡ false
      → run_words page (k - 1) (step_scan page s) (written words s.used (step_events page s)) ≡ run_words page k s words
  words_more words k h e =
      ap (λ (n : ℕ). written (written words s.used (step_events page s)) n (run_events page (k - 1) (step_scan page s))) step_count
      ∙ written_append words s.used (step_events page s) (run_events page (k - 1) (step_scan page s))
      ∙ ap (written words s.used) (sym (events_more k h e))

  pub words_rest : (words : List ℕ) (k : ℕ) → rests s.tokenizer.state ≡ true → run_words page k s words ≡ words
  words_rest words k e = ap (written words s.used) (events_rest k e) ∙ written_none words s.used

-- ---- what every step keeps, a run keeps

pub run_keeps : (page : List ℕ) (P : Scan → Type 0) → ((s : Scan) → rests s.tokenizer.state ≡ false → P s → P (step_scan page s)) → (k : ℕ) (s : Scan) → P s → P (run_scan page k s)
unfolding run_scan when◌then◌else◌
run_keeps page P f zero s p = p
run_keeps page P f (suc k) s p = case _ (rests s.tokenizer.state) (λ e. rw e p) (λ e. rw e (run_keeps page P f k (step_scan page s) (f s e p)))

-- ---- the short way is a step

-- the byte that is eaten is no line feed and no tab, so that it is one column
pub one_column_lem : (page : List ℕ) (s : Scan) (b : ℕ) (m : Move) (effect : Effect) → b ≡ byte_at page s.tokenizer.at → s.tokenizer.at < s.tokenizer.job.length → eqb b line_feed ≡ false → eqb b tab ≡ false → m ≡ eat_with s.tokenizer.state Nothing effect
    → ((next : Line) (t : InTab) → lines_after page effect next t s.lines ≡ lines_of next t s.lines.kept s.lines.fault) → passed_lines s.lines 1 ≡ lines_step page s m
unfolding counted_on when◌then◌else◌
one_column_lem page s b m effect e l f g d h = rw (d, h, lt-ltb s.tokenizer.at s.tokenizer.job.length l, ← e, f, g)

pub glide : (page words : List ℕ) (s : Scan) (b : ℕ) (r : Bool) (m : Move) → b ≡ byte_at page s.tokenizer.at → Glides s.tokenizer.state s.tokenizer.regs.quote b r → r ≡ true
    → m ≡ eat s.tokenizer.state Nothing → s.tokenizer.at < s.tokenizer.job.length → (moved_scan s m 0 (passed_lines s.lines 1) ≡ step_scan page s) × (words ≡ written words s.used (step_events page s))
unfolding choice
glide page words s b r m e g y d l =
    let c : m ≡ choice page s = d ∙ sym (ap (decision page s.tokenizer) (sym e) ∙ g.stays page s.tokenizer refl refl y) in
    let n = none page words s b e m c (rw d) in
    (ap (moved_scan s m 0) (one_column_lem page s b m Keep e l (g.in_line y) (g.one_column y) d (λ next t. refl)) ∙ n.0, n.1)

-- ---- the loop

pub record Going (page words₀ : List ℕ) (allowance : ℕ) (s₀ : Scan) (words : List ℕ) (s : Scan) (left : ℕ) : Type 0 where
  pub state : run_scan page left s ≡ run_scan page allowance s₀
  pub written : run_words page left s words ≡ run_words page allowance s₀ words₀
  pub fit : Fit s (length page) (length words)
  pub same : length words ≡ length words₀

module _ {page words₀ : List ℕ} {allowance : ℕ} {s₀ : Scan} {words : List ℕ} {s : Scan} {left : ℕ} (g : Going page words₀ allowance s₀ words s left) where
  -- the scan rests
  pub going_rest : s.tokenizer.state < 32 → (s ≡ run_scan page allowance s₀) × (words ≡ run_words page allowance s₀ words₀)
  going_rest h =
      let r = lt-ltb s.tokenizer.state 32 h in
      (sym (run_rest page s left r) ∙ g.state, sym (words_rest page s words left r) ∙ g.written)

  -- the allowance is spent
  pub going_out : left ≤ 0 → (s ≡ run_scan page allowance s₀) × (words ≡ run_words page allowance s₀ words₀)
  unfolding run_scan run_events
  going_out h =
      let z : left ≡ 0 = omega arith in
      (rw z at g.state, sym (written_none words s.used) ∙ rw z at g.written)

  -- one more step
  pub going_more : {words' : List ℕ} {s' : Scan} → 0 < left → 32 ≤ s.tokenizer.state → s' ≡ step_scan page s → words' ≡ written words s.used (step_events page s) → length words' ≡ length words → Going page words₀ allowance s₀ words' s' (left - 1)
  going_more {words'} {s'} h k e d l =
      let r = le-ltb s.tokenizer.state 32 k in
      record {
        state = rw e (sym (run_more page s left h r) ∙ g.state);
        written = rw (e, d) (words_more page s words left h r ∙ g.written);
        fit = rw (e, l) (fit_step page s (length words) g.fit);
        same = l ∙ g.same;
      }
