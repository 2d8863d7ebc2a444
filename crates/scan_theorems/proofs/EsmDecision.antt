-- Every decision of an ESM block is paid for, whatever the prices: the lemmas of the states, lifted over the tables of `decision`.
use Prim.Native.Nat.{ℕ, ◌≤◌}
use mathlib.Core.Path.{◌≡◌}
use mathlib.Core.Bool.{true}
use mathlib.Core.List.{List}
use lib.ListN.{length}
use lib.Dec.{eqb}
use Rattle.base.proofs.Tables.{◌&◌, Each}
use Rattle.base.specs.If.{when◌then◌else◌}
use Rattle.base.specs.Table.{find}
use Rattle.base.specs.Page.{byte_at, after_line_feed}
use Rattle.base.specs.declared.Move.{Move}
use Rattle.mdx_esm.specs.Word.{is_word}
use Rattle.tokenizer.specs.Decision.{esm_fault, esm_allowed, esm_states, decision}
use Rattle.tokenizer.specs.Ranges.{esm}
use Rattle.tokenizer.specs.declared.Tokenizer.{Tokenizer}
use Rattle.scan_theorems.proofs.EveryState.{of_esm, of_every_esm_state}
use Rattle.scan_theorems.proofs.Price.{Prices}
use Rattle.scan_theorems.proofs.Due.{esm_due}
use Rattle.scan_theorems.proofs.Ahead.{Ahead}
use Rattle.scan_theorems.proofs.EsmFalls.{EsmFalls}
use Rattle.scan_theorems.proofs.EsmStates.{start_falls, word_falls, inside_falls, line_falls, goes_on_falls, before_falls, blank_falls, end_falls, verdict_falls}

module _ (p : Prices) (page : List ℕ) (t : Tokenizer) (c : eqb t.job.construct esm ≡ true) (size : length page ≡ t.job.length) where
  abbrev here : Move → Type 0
  here m = EsmFalls p page t.job.construct t.job.length t.at t.regs (esm_due p page t.state t.at t.regs.saved) m

  rows : t.at ≤ length page → Ahead page t.state t.at t.regs.saved → Each here t.state (esm_states page t (byte_at page t.at))
  unfolding esm_due find when◌then◌else◌
  rows w a =
      let n = t.job.length in
      let k = t.job.construct in
      let at = t.at in
      let r = t.regs in
      ((λ e. rw e (start_falls p page k n at r c size (esm_allowed page t)))
      & (λ e. rw e (word_falls p page k n at r c size (is_word page t.job.start at)))
      & (λ e. rw e (inside_falls p page k n at r c size))
      & (λ e. rw e (line_falls p page k n at r c size))
      & (λ e. let h = a.goes_on e in rw e (goes_on_falls p page k n at r c size h))
      & (λ e. let h = a.begins e in rw e (before_falls p page k n at r c size h.0 h.1))
      & (λ e. let h = a.passes e in rw e (blank_falls p page k n at r c size w h.0 h.1))
      & (λ e. rw e (end_falls p page k n at r c size))
      & (λ e. rw e (verdict_falls p page k n at r c size t.heard (after_line_feed page at) (esm_fault t.heard t.job.start at)))
      & tt)

  -- what a tokenizer in range decides, in a state of an ESM block
  pub decision_falls : t.at ≤ length page → Ahead page t.state t.at t.regs.saved → of_esm t.state ≡ true → here (decision page t (byte_at page t.at))
  decision_falls w a h = of_every_esm_state here page t (byte_at page t.at) h (rows w a)
