use borrow.Author.Tests.{ne_eqb}
use Rattle.base.proofs.Choice.{if_no, picks}
use Rattle.page.proofs.line.passed.Goals as goal

pub returns-then-b-eq-LINE_FEED : goal.returns-then-b-eq-LINE_FEED
returns-then-b-eq-LINE_FEED c = search picks depth 12

pub returns : goal.returns
returns c = if_no _ _ _ _ _ (ne_eqb _ _ c.if-b-eq-LINE_FEED.false) (rw c.column_behind.ensures)
