use mathlib.Core.Path.{refl, sym, ◌∙◌}
use Rattle.base.proofs.Choice.{if_yes, if_no}
use Rattle.scan.specs.Call.{give_of}
use Rattle.scan.proofs.Scan.give.Goals as goal

pub returns-then-givable : goal.returns-then-givable
unfolding give_of
returns-then-givable c = if_yes _ _ _ _ _ (sym c.givable.ensures ∙ c.if-givable.true) (rw c.given-scan.ensures)

pub returns-else-givable : goal.returns-else-givable
unfolding give_of
returns-else-givable c = if_no _ _ _ _ _ (sym c.givable.ensures ∙ c.if-givable.false) refl
