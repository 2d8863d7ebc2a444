use borrow.Author.Tests.{eq-eqb, ne_eqb}
use Rattle.scan.proofs.gliding.nests.Goals as goal

pub returns-then-name-ne-MDX_EXPRESSION_INSIDE : goal.returns-then-name-ne-MDX_EXPRESSION_INSIDE
returns-then-name-ne-MDX_EXPRESSION_INSIDE c = rw (ne_eqb c.args.name 34 c.if-name-ne-MDX_EXPRESSION_INSIDE.true)

pub returns-then-b-eq-LEFT_BRACE : goal.returns-then-b-eq-LEFT_BRACE
returns-then-b-eq-LEFT_BRACE c = let a = c.args in rw (eq-eqb a.name 34 c.if-name-ne-MDX_EXPRESSION_INSIDE.false, eq-eqb a.b 123 c.if-b-eq-LEFT_BRACE.true)

pub returns-then-b-eq-RIGHT_BRACE : goal.returns-then-b-eq-RIGHT_BRACE
returns-then-b-eq-RIGHT_BRACE c = let a = c.args in rw (eq-eqb a.name 34 c.if-name-ne-MDX_EXPRESSION_INSIDE.false, ne_eqb a.b 123 c.if-b-eq-LEFT_BRACE.false, eq-eqb a.b 125 c.if-b-eq-RIGHT_BRACE.true)

pub returns : goal.returns
returns c = let a = c.args in rw (eq-eqb a.name 34 c.if-name-ne-MDX_EXPRESSION_INSIDE.false, ne_eqb a.b 123 c.if-b-eq-LEFT_BRACE.false, ne_eqb a.b 125 c.if-b-eq-RIGHT_BRACE.false)
