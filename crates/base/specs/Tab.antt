-- A place inside a tab. docs/SCOPE.md, 'Tabs': a tab goes on to the next stop of four columns, and a line prefix may end inside it, so that up
-- to three of its columns are passed there.
use Rattle.std.specs.Prelude.{ℕ, eqb}
use Rattle.base.specs.declared.InTab.{InTab}
use Rattle.base.specs.declared.InTab.TheVariants.{Outside, Past1, Past2, Past3}
use Rattle.base.specs.If.{when◌then◌else◌}

-- how many columns of the tab are passed; none outside one
abbrev pub columns_of : InTab → ℕ
columns_of Outside = 0
columns_of Past1 = 1
columns_of Past2 = 2
columns_of Past3 = 3

-- so many columns of a tab
abbrev pub in_tab : ℕ → InTab
in_tab columns = when eqb columns 0 then Outside else when eqb columns 1 then Past1 else when eqb columns 2 then Past2 else Past3

-- a tab reaches to the next stop of so many columns: the Rust's `TAB_SIZE`
abbrev pub tab_size : ℕ
tab_size = 4
