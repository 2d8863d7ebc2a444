use mathlib.Core.Path.{refl, sym, ap₂, ◌∙◌}
use Rattle.base.proofs.Choice.{if_yes, if_no}
use Rattle.scan.specs.Call.{begun_if, begin_of}
use Rattle.scan.proofs.Scan.new.Goals as goal

pub returns-then-numbers_listed : goal.returns-then-numbers_listed
unfolding begin_of
returns-then-numbers_listed c =
    if_yes _ _ _ _ _ (sym c.numbers_listed.ensures ∙ c.if-numbers_listed.true) (c.begin_if_good.ensures ∙ ap₂ begun_if c.check-checked.ensures c.job_of.ensures)

pub returns-else-numbers_listed : goal.returns-else-numbers_listed
unfolding begin_of
returns-else-numbers_listed c = if_no _ _ _ _ _ (sym c.numbers_listed.ensures ∙ c.if-numbers_listed.false) refl
