use mathlib.Core.Path.{refl, sym, ◌∙◌}
use Rattle.base.proofs.Choice.{if_yes, if_no}
use Rattle.scan.specs.Call.{asked_answer}
use Rattle.scan.proofs.Scan.answer.Goals as goal

pub returns-then-in_range : goal.returns-then-in_range
unfolding asked_answer
returns-then-in_range c = if_yes _ _ _ _ _ (sym c.in_range.ensures ∙ c.if-in_range.true) c.stands.ensures

pub returns : goal.returns
unfolding asked_answer
returns c = if_no _ _ _ _ _ (sym c.in_range.ensures ∙ c.if-in_range.false) refl
