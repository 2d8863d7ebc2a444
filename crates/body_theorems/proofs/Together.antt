-- What holds of a scan, and of what its events have collected, between two steps: and so after a run.
use Prim.Native.Nat.{ℕ, zero, suc}
use mathlib.Core.Path.{◌≡◌, refl}
use mathlib.Core.Bool.{true, false}
use mathlib.Core.List.{List}
use lib.Dec.{eqb}
use Rattle.base.specs.If.{when◌then◌else◌}
use Rattle.base.proofs.Choice.{case}
use Rattle.base.specs.State as state
use Rattle.base.specs.Decide.{retry, list_of}
use Rattle.base.specs.declared.InTab.{InTab}
use Rattle.base.specs.declared.Marks.TheVariants.{Nothing}
use Rattle.base.specs.declared.Move.{Move}
use Rattle.tokenizer.specs.Moved.{moved}
use Rattle.tokenizer.specs.Ranges.{esm}
use Rattle.tokenizer.specs.declared.Regs.{Regs}
use Rattle.tokenizer.specs.declared.Tokenizer.{Tokenizer}
use Rattle.scan.specs.declared.Scan.{Scan}
use Rattle.scan.specs.Lines.{tab_next}
use Rattle.scan.specs.Scan.{choice, carried_out, line_next, step_scan, step_events, run_scan, run_events}
use Rattle.scan_theorems.proofs.Parts.{parts, low, high}
use Rattle.scan_theorems.proofs.Scans.{Within, within_step}
use Rattle.body_theorems.specs.Events.{Runs, collect_on}
use Rattle.body_theorems.proofs.Fold.{collect_append}
use Rattle.body_theorems.proofs.After.{tab_then, still_out, tab_after_lem, runs_then, collects_same, After, pick}
use Rattle.body_theorems.proofs.Kept.{Kept, to_end}
use Rattle.body_theorems.proofs.TagSteps.{tag_kept}
use Rattle.body_theorems.proofs.EsmSteps.{BlockKept, block_to_end, block_kept}

-- it is within its bounds, and what holds of an expression or a tag does, or what holds of an ESM block
pub record Together (page : List ℕ) (s : Scan) (r : Runs) : Type 0 where
  pub within : Within page s
  pub expression : eqb s.tokenizer.job.construct esm ≡ false → Kept page s.tokenizer.job.asks s.tokenizer.state s.tokenizer.at s.lines.tab s.tokenizer.regs r
  pub block : eqb s.tokenizer.job.construct esm ≡ true → BlockKept page s.tokenizer.job.start s.tokenizer.state s.tokenizer.at s.lines.tab s.tokenizer.regs r

module _ (page : List ℕ) (s : Scan) (r : Runs) (h : Together page s r) (going : state.rests s.tokenizer.state ≡ false) where
  abbrev t : Tokenizer
  t = s.tokenizer

  abbrev v : InTab
  v = s.lines.tab

  -- what is kept by the decision is kept by the step, if it is kept where there is no room
  abbrev Next : (ℕ → ℕ → InTab → Regs → Runs → Type 0) → Move → Type 0
  Next K m = After page K t.job.length t.at v t.regs r m

  carried : (K : ℕ → ℕ → InTab → Regs → Runs → Type 0) → Next K (retry state.full Nothing) → Next K (choice page s) → Next K (carried_out s (choice page s))
  carried K p q = pick (λ e. p) (λ e. q)

  -- what the step's events collect
  same_runs : collect_on page r (step_events page s) ≡ runs_then page t.at v r (carried_out s (choice page s))
  unfolding step_events
  same_runs = collects_same page _ _ _ _ refl refl refl refl r (list_of (carried_out s (choice page s)).marks)

  -- how far inside a tab it stands then
  same_tab : (step_scan page s).lines.tab ≡ tab_then v (carried_out s (choice page s))
  unfolding step_scan
  same_tab = let m = carried_out s (choice page s) in tab_after_lem page m.effect (line_next page s m) (tab_next m.eat v) s.lines

  in_expression : eqb (step_scan page s).tokenizer.job.construct esm ≡ false → Kept page (step_scan page s).tokenizer.job.asks (step_scan page s).tokenizer.state (step_scan page s).tokenizer.at (step_scan page s).lines.tab (step_scan page s).tokenizer.regs (collect_on page r (step_events page s))
  unfolding step_scan choice moved
  in_expression c =
      let p = parts t h.within.sound.range in
      rw (same_runs, same_tab) (carried (Kept page t.job.asks) (to_end page t.job.asks refl) (tag_kept page t v r h.within.sound.size (h.expression c) p.regs.back (low t.job.construct t.state c p.state going))).kept

  in_block : eqb (step_scan page s).tokenizer.job.construct esm ≡ true → BlockKept page (step_scan page s).tokenizer.job.start (step_scan page s).tokenizer.state (step_scan page s).tokenizer.at (step_scan page s).lines.tab (step_scan page s).tokenizer.regs (collect_on page r (step_events page s))
  unfolding step_scan choice moved
  in_block c =
      let p = parts t h.within.sound.range in
      rw (same_runs, same_tab) (carried (BlockKept page t.job.start) (block_to_end page t.job.start (still_out v (h.block c).0 false) refl) (block_kept page t v r h.within.sound.size (h.block c) (high t.job.construct t.state c p.state going))).kept

  pub together_step : Together page (step_scan page s) (collect_on page r (step_events page s))
  together_step = record { within = within_step page s h.within going; expression = in_expression; block = in_block }

pub together_run : (page : List ℕ) (k : ℕ) (s : Scan) (r : Runs) → Together page s r → Together page (run_scan page k s) (collect_on page r (run_events page k s))
unfolding run_scan run_events when◌then◌else◌
together_run page zero s r h = h
together_run page (suc k) s r h =
    case _ (state.rests s.tokenizer.state) (λ e. rw e h)
    (λ e. rw (e, collect_append) (together_run page k (step_scan page s) (collect_on page r (step_events page s)) (together_step page s r h e)))
