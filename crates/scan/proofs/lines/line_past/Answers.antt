use borrow.Author.Tests.{eq-eqb, ne_eqb}
use Rattle.base.proofs.Choice.{if_yes, if_no}
use Rattle.scan.proofs.lines.line_past.Goals as goal

pub returns-then-b-eq-LINE_FEED : goal.returns-then-b-eq-LINE_FEED
returns-then-b-eq-LINE_FEED c = if_yes _ _ _ _ _ (eq-eqb _ 10 c.if-b-eq-LINE_FEED.true) (rw c.counted.ensures)

pub returns : goal.returns
returns c = if_no _ _ _ _ _ (ne_eqb _ 10 c.if-b-eq-LINE_FEED.false) (rw c.column_past.ensures)
