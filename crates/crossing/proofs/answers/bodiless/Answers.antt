use borrow.Author.Tests.{eq-eqb, ne_eqb}
use Rattle.base.specs.If.{when◌then◌else◌}
use Rattle.crossing.proofs.answers.bodiless.Goals as goal

pub returns-then-number-eq12 : goal.returns-then-number-eq12
unfolding when◌then◌else◌
returns-then-number-eq12 c = simp (eq-eqb _ _ c.if-number-eq12.true)

pub returns-else-number-eq12 : goal.returns-else-number-eq12
unfolding when◌then◌else◌
returns-else-number-eq12 c = simp (ne_eqb _ _ c.if-number-eq12.false)
