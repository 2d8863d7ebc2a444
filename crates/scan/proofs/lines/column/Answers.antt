use native.Mathlib.Omega.{arith}
use mathlib.Core.Path.{refl}
use borrow.Author.Tests.{lt-ltb, le-ltb}
use Rattle.base.proofs.Choice.{if_yes, if_no}
use Rattle.base.proofs.Tabs.{columns_few}
use Rattle.scan.proofs.lines.column.Goals as goal

pub overflow_add-result : goal.overflow_add-result
overflow_add-result c = omega (arith, columns_few c.args.tab, c.columns.ensures, c.if-line-lt-HIGHEST_COLUMN.true)

pub returns-then-line-lt-HIGHEST_COLUMN : goal.returns-then-line-lt-HIGHEST_COLUMN
returns-then-line-lt-HIGHEST_COLUMN c =
    let a = c.args in
    (if_yes _ _ _ _ _ (lt-ltb a.line.column 4194313 c.if-line-lt-HIGHEST_COLUMN.true) (rw (c.from.ensures, c.columns.ensures)), omega (arith, columns_few a.tab, c.columns.ensures))

pub returns : goal.returns
returns c = (if_no _ _ _ _ _ (le-ltb c.args.line.column 4194313 c.if-line-lt-HIGHEST_COLUMN.false) refl, omega arith)
