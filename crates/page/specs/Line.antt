-- The line and the column of an offset of the page, both counted from 1 (docs/SCOPE.md, 'Line and column' and 'Tabs'): "The line of an offset is
-- one more than the line feeds before it on the page. Its column is 1 at the page's start and past a line feed; past a tab it is the next of
-- 1, 5, 9, ..; past any other byte it is one more: whatever the scan's start." It is the Rust's `move_one`, byte by byte.
use Rattle.std.specs.Prelude.{ℕ, zero, suc, ◌+◌, ◌-◌, ◌*◌, ◌/◌, List, eqb}
use Rattle.base.specs.Byte.{tab, line_feed}
use Rattle.base.specs.If.{when◌then◌else◌}
use Rattle.base.specs.Page.{byte_at}
use Rattle.base.specs.Tab.{tab_size}
use Rattle.page.specs.declared.line.Line.{Line}
use Rattle.page.specs.declared.line.Spot.{Spot}
use Rattle.page.specs.declared.line.Anchor.{Anchor}

unfoldable pub line_of : List ℕ → ℕ → ℕ
line_of page zero = 1
line_of page (suc o) = when eqb (byte_at page o) line_feed then line_of page o + 1 else line_of page o

-- the column behind a tab: the first behind column c of those that are one more than a multiple of the tab's size
abbrev pub tab_stop : ℕ → ℕ
tab_stop c = (c + 3) / tab_size * tab_size + 1

-- the column behind the byte b, which is no line feed and stands in column c
abbrev pub column_behind : ℕ → ℕ → ℕ
column_behind c b = when eqb b tab then tab_stop c else c + 1

unfoldable pub column_of : List ℕ → ℕ → ℕ
column_of page zero = 1
column_of page (suc o) = when eqb (byte_at page o) line_feed then 1 else column_behind (column_of page o) (byte_at page o)

-- a place with its line and column
abbrev pub spot : ℕ → ℕ → ℕ → Spot
spot place line column = record { place = place; line = line; column = column }

abbrev pub spot_at : List ℕ → ℕ → Spot
spot_at page o = spot o (line_of page o) (column_of page o)

-- ---- for those who count on from an offset

-- the line and the column of an offset
abbrev pub line_at : List ℕ → ℕ → Line
line_at page o = record { number = line_of page o; column = column_of page o }

-- those of the page's first byte, and of the byte behind a line feed
abbrev pub first_line : Line
first_line = record { number = 1; column = 1 }

abbrev pub next_line : Line → Line
next_line line = record { number = line.number + 1; column = 1 }

-- those of the offset past the byte b
abbrev pub passed_line : Line → ℕ → Line
passed_line line b = when eqb b line_feed then next_line line else record { number = line.number; column = column_behind line.column b }

-- n columns further
abbrev pub onward : ℕ → Line → Line
onward n line = record { number = line.number; column = line.column + n }

-- ---- for the pass over a page, which looks at line feeds and tabs alone

-- those of a place, from an earlier one: each byte between is one column
abbrev pub line_from : Anchor → ℕ → Line
line_from a at = onward (at - a.from) a.line

abbrev pub first_anchor : Anchor
first_anchor = record { line = first_line; from = 0 }

-- past the byte b at a place
abbrev pub anchor_past : Anchor → ℕ → ℕ → Anchor
anchor_past a at b = record { line = passed_line (line_from a at) b; from = at + 1 }
