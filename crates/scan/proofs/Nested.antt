-- A brace inside an expression that its state passes is one step, which changes place and depth alone.
use Prim.Native.Nat.{ℕ, ◌+◌, ◌-◌, ◌≤◌, ◌<◌}
use native.Mathlib.Omega.{arith}
use mathlib.Core.Path.{◌≡◌, refl, sym, ap, ◌∙◌}
use mathlib.Core.Bool.{true, false}
use mathlib.Core.List.{List}
use lib.ListN.{length}
use lib.Dec.{eqb}
use borrow.Author.Tests.{lt-ltb, eqb-true}
use Rattle.base.specs.Byte.{tab, line_feed, left_brace, right_brace, end_of_page}
use Rattle.base.specs.If.{when◌then◌else◌}
use Rattle.base.proofs.Choice.{case, both, or_cases, not_yes}
use Rattle.base.specs.Page.{byte_at}
use Rattle.base.specs.Decide.{eat_with}
use Rattle.base.specs.declared.Effect.{Effect}
use Rattle.base.specs.declared.Effect.TheVariants.{Keep, Deeper, Shallower}
use Rattle.base.specs.declared.InTab.{InTab}
use Rattle.base.specs.declared.Marks.TheVariants.{Nothing}
use Rattle.page.specs.declared.line.Line.{Line}
use Rattle.tokenizer.specs.Registers.{with_depth}
use Rattle.tokenizer.specs.Decision.{decision}
use Rattle.tokenizer.specs.Moved.{place_after, changed, moved}
use Rattle.events.specs.Words.{written}
use Rattle.scan.specs.declared.Scan.{Scan}
use Rattle.scan.specs.Lines.{lines_after, lines_of}
use Rattle.scan.specs.Scan.{choice, moved_scan, step_scan, step_events}
use Rattle.scan.specs.Gliding.{nests, depth_past, nested_scan, counted_on, passed_lines}
use Rattle.scan.proofs.Steps.{none}
use Rattle.scan.proofs.ShortWay.{opens_unasked, opens, shuts}
use Rattle.scan.proofs.Runs.{Going, one_column_lem, going_more}
use Rattle.scan.proofs.Glided.{before_end}

-- an effect that changes the depth alone, and not the place nor the lines
record Deepens (page : List ℕ) (s : Scan) (b : ℕ) (effect : Effect) : Type 0 where
  place : (next : ℕ) → place_after effect next s.tokenizer.regs.saved ≡ next
  depth : (next : ℕ) → changed effect s.tokenizer.at next s.tokenizer.regs ≡ with_depth (depth_past s.tokenizer.regs.depth s.tokenizer.job.asks b) s.tokenizer.regs
  lines : (next : Line) (t : InTab) → lines_after page effect next t s.lines ≡ lines_of next t s.lines.kept s.lines.fault

module _ (page words : List ℕ) (s : Scan) (b : ℕ) (byte : b ≡ byte_at page s.tokenizer.at) (inside : s.tokenizer.at < s.tokenizer.job.length) where
  nested_moves : (effect : Effect) → Deepens page s b effect → nested_scan s b ≡ moved_scan s (eat_with s.tokenizer.state Nothing effect) 0 (passed_lines s.lines 1)
  unfolding moved counted_on when◌then◌else◌
  nested_moves effect d =
      let same : s.used + 0 ≡ s.used = omega arith in
      rw (lt-ltb s.tokenizer.at s.tokenizer.job.length inside, d.place, d.depth, same)

  abbrev Passed : Type 0
  Passed = (nested_scan s b ≡ step_scan page s) × (words ≡ written words s.used (step_events page s))

  nested_by : (effect : Effect) → Deepens page s b effect → eqb b line_feed ≡ false → eqb b tab ≡ false → decision page s.tokenizer b ≡ eat_with s.tokenizer.state Nothing effect → Passed
  unfolding choice
  nested_by effect d f g e =
      let m = eat_with s.tokenizer.state Nothing effect in
      let n = none page words s b byte m (sym e ∙ ap (decision page s.tokenizer) byte) refl in
      (nested_moves effect d ∙ ap (moved_scan s m 0) (one_column_lem page s b m effect byte inside f g refl d.lines) ∙ n.0, n.1)

  -- past a `{` that is counted, one that is not, and a `}`
  open_depth : eqb b left_brace ≡ true → s.tokenizer.job.asks ≡ false → Deepens page s b Deeper
  unfolding when◌then◌else◌
  open_depth o a = record { place = λ n. refl; depth = λ n. rw (o, a); lines = λ n t. refl }

  kept_depth : eqb b left_brace ≡ true → s.tokenizer.job.asks ≡ true → Deepens page s b Keep
  unfolding when◌then◌else◌
  kept_depth o a = record { place = λ n. refl; depth = λ n. rw (o, a); lines = λ n t. refl }

  shut_depth : eqb b left_brace ≡ false → Deepens page s b Shallower
  unfolding when◌then◌else◌
  shut_depth o = record { place = λ n. refl; depth = λ n. rw o; lines = λ n t. refl }

  passes_open : s.tokenizer.state ≡ 34 → eqb b left_brace ≡ true → Passed
  passes_open i o =
      let brace = eqb-true b left_brace o in
      let at-brace = ap (decision page s.tokenizer) brace in
      case Passed s.tokenizer.job.asks
      (λ a. nested_by Keep (kept_depth o a) (rw brace) (rw brace) (at-brace ∙ opens_unasked page s.tokenizer i a ∙ ap (λ (n : ℕ). eat_with n Nothing Keep) (sym i)))
      (λ a. nested_by Deeper (open_depth o a) (rw brace) (rw brace) (at-brace ∙ opens page s.tokenizer i a ∙ ap (λ (n : ℕ). eat_with n Nothing Deeper) (sym i)))

  passes_shut : s.tokenizer.state ≡ 34 → eqb b right_brace ≡ true → eqb s.tokenizer.regs.depth 0 ≡ false → Passed
  passes_shut i o d =
      let brace = eqb-true b right_brace o in
      nested_by Shallower (shut_depth (rw brace)) (rw brace) (rw brace) (ap (decision page s.tokenizer) brace ∙ shuts page s.tokenizer i d ∙ ap (λ (n : ℕ). eat_with n Nothing Shallower) (sym i))

  passes_brace : nests s.tokenizer.state s.tokenizer.regs.depth b ≡ true → Passed
  passes_brace n =
      let i = eqb-true s.tokenizer.state 34 (both _ _ n).0 in
      or_cases Passed (eqb b left_brace) _ (both (eqb s.tokenizer.state 34) _ n).1
      (λ o. passes_open i o)
      (λ r. let h = both (eqb b right_brace) _ r in passes_shut i h.0 (not_yes (eqb s.tokenizer.regs.depth 0) h.1))

-- it is a byte of the page
on_page : (name depth b : ℕ) → nests name depth b ≡ true → eqb b end_of_page ≡ false
on_page name depth b n =
    or_cases (eqb b end_of_page ≡ false) (eqb b left_brace) _ (both (eqb name 34) _ n).1
    (λ o. let e = eqb-true b left_brace o in rw e)
    (λ r. let e = eqb-true b right_brace (both (eqb b right_brace) _ r).0 in rw e)

-- ---- the loop

module _ {page words₀ : List ℕ} {allowance : ℕ} {s₀ : Scan} {words : List ℕ} {s : Scan} {left : ℕ} (g : Going page words₀ allowance s₀ words s left) (b : ℕ) (byte : b ≡ byte_at page s.tokenizer.at) (brace : nests s.tokenizer.state s.tokenizer.regs.depth b ≡ true) where
  pub nested_inside : s.tokenizer.at < length page
  nested_inside = before_end page s.tokenizer.at (rw byte at (on_page s.tokenizer.state s.tokenizer.regs.depth b brace))

  pub going_nested : 0 < left → 32 ≤ s.tokenizer.state → Going page words₀ allowance s₀ words (nested_scan s b) (left - 1)
  going_nested h k =
      let p = passes_brace page words s b byte (omega (arith, nested_inside, g.fit.long)) brace in
      going_more g h k p.0 p.1 refl
