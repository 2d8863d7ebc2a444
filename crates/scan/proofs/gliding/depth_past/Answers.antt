use borrow.Author.Tests.{eq-eqb, ne_eqb}
use Rattle.base.specs.If.{when◌then◌else◌}
use Rattle.scan.proofs.gliding.depth_past.Goals as goal

pub returns-then-b-ne-LEFT_BRACE : goal.returns-then-b-ne-LEFT_BRACE
unfolding when◌then◌else◌
returns-then-b-ne-LEFT_BRACE c = rw (ne_eqb c.args.b 123 c.if-b-ne-LEFT_BRACE.true) c.one_shallower.ensures

pub returns-then-asks : goal.returns-then-asks
unfolding when◌then◌else◌
returns-then-asks c = rw (eq-eqb c.args.b 123 c.if-b-ne-LEFT_BRACE.false, c.if-asks.true)

pub returns : goal.returns
unfolding when◌then◌else◌
returns c = rw (eq-eqb c.args.b 123 c.if-b-ne-LEFT_BRACE.false, c.if-asks.false) c.one_deeper.ensures
