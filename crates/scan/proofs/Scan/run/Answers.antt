use mathlib.Core.Path.{refl, sym, ◌∙◌}
use Rattle.base.proofs.Choice.{if_yes, if_no}
use Rattle.scan.specs.Call.{run_of}
use Rattle.scan.proofs.Ranged.{fit_of}
use Rattle.scan.proofs.Scan.run.Goals as goal

pub go-scan-requires : goal.go-scan-requires
go-scan-requires c = fit_of _ _ _ _ (sym c.runnable.ensures ∙ c.if-runnable.true)

pub returns-then-runnable : goal.returns-then-runnable
unfolding run_of
returns-then-runnable c =
    if_yes _ _ _ _ _ (sym c.runnable.ensures ∙ c.if-runnable.true) (rw (c.stands-answer.ensures, c.go-scan.ensures.state, c.go-scan.ensures.written))

pub returns-else-runnable : goal.returns-else-runnable
unfolding run_of
returns-else-runnable c = if_no _ _ _ _ _ (sym c.runnable.ensures ∙ c.if-runnable.false) refl
