-- The lines and columns of the three places that a scan remembers, counted on from step to step: its own, the one that a look-ahead goes back
-- to, and the one where a verdict found fault; and how far its own place is inside a tab. docs/SCOPE.md, 'Line and column' and 'Tabs'. That
-- they are the page's (crate `page`, Line.antt) for every scan that calls gave is a theorem of the crate `scan_theorems`,
-- `lines_are_the_pages`; what a run does is said over the registers, so that it holds of made-up scans too.
use Rattle.std.specs.Prelude.{ℕ, ◌+◌, ◌*◌, Bool, ◌&&◌, List, leb, ltb, eqb, length}
use Rattle.base.specs.Byte.{line_feed}
use Rattle.base.specs.If.{when◌then◌else◌}
use Rattle.base.specs.Page.{page_limit}
use Rattle.base.specs.Tab.{columns_of}
use Rattle.base.specs.declared.InTab.{InTab}
use Rattle.base.specs.declared.InTab.TheVariants.{Outside}
use Rattle.base.specs.declared.Effect.{Effect}
use Rattle.base.specs.declared.Effect.TheVariants.{Keep, Deeper, Shallower, Open, PrefixBegins, PrefixGoesOn, PrefixEnds, PrefixInTab, Quote, Return, Save, Restore, Last, Fault, Refuse}
use Rattle.page.specs.declared.line.Line.{Line}
use Rattle.page.specs.declared.line.Spot.{Spot}
use Rattle.page.specs.Line.{spot, column_behind, line_at, first_line}
use Rattle.events.specs.declared.Point.{Point}
use Rattle.events.specs.Event.{point}
use Rattle.tokenizer.specs.Moved.{one_more}
use Rattle.scan.specs.declared.lines.Lines.{Lines}

-- the highest number of a line: the longest page has the offsets 0 to its length, and an event may stand one past that
abbrev pub highest : ℕ
highest = page_limit + 2

-- and of a column: a byte has four at the most
abbrev pub highest_column : ℕ
highest_column = 4 * highest + 1

-- Lines and columns are counted up to the highest, which no page gets beyond.
abbrev pub column_past : ℕ → ℕ → ℕ
column_past column b = when ltb column highest_column then column_behind column b else column

-- the line and the column past the byte b
abbrev pub line_past : Line → ℕ → Line
line_past line b =
    when eqb b line_feed then record { number = one_more line.number highest; column = 1 }
    else record { number = line.number; column = column_past line.column b }

-- the column of a place so far inside a tab
abbrev pub column_in : Line → InTab → ℕ
column_in line tab = when ltb line.column highest_column then line.column + columns_of tab else line.column

-- a place, as an answer carries it, and as an event does
abbrev pub spot_in : Line → InTab → ℕ → Spot
spot_in line tab at = spot at line.number (column_in line tab)

abbrev pub point_in : Line → InTab → ℕ → Point
point_in line tab at = point at line.number (column_in line tab) tab

abbrev pub lines_of : Line → InTab → Line → Line → Lines
lines_of line tab kept fault = record { line = line; tab = tab; kept = kept; fault = fault }

-- before the first step, at a place of a line: the other two places are the page's first
abbrev pub first_lines : Line → Lines
first_lines line = lines_of line Outside first_line first_line

-- a byte that is eaten is passed whole
abbrev pub tab_next : Bool → InTab → InTab
tab_next eat tab = when eat then Outside else tab

-- no verdict finds fault further on than one past the page's end
abbrev pub within_end : List ℕ → ℕ → ℕ
within_end page place = when ltb place (length page + 1) then place else length page + 1

-- The lines after a step, when `next` and `tab` are those of the byte that comes next: where the place is saved its line is, where the saved
-- place is taken up its line is, where a line prefix ends inside a tab its columns are passed, and where a verdict says error the line of
-- the place at fault is looked up.
abbrev pub lines_after : List ℕ → Effect → Line → InTab → Lines → Lines
lines_after page Keep next tab l = lines_of next tab l.kept l.fault
lines_after page Deeper next tab l = lines_of next tab l.kept l.fault
lines_after page Shallower next tab l = lines_of next tab l.kept l.fault
lines_after page Open next tab l = lines_of next tab l.kept l.fault
lines_after page PrefixBegins next tab l = lines_of next tab l.kept l.fault
lines_after page PrefixGoesOn next tab l = lines_of next tab l.kept l.fault
lines_after page PrefixEnds next tab l = lines_of next tab l.kept l.fault
lines_after page (PrefixInTab passed) next tab l = lines_of next passed l.kept l.fault
lines_after page (Quote b) next tab l = lines_of next tab l.kept l.fault
lines_after page (Return name) next tab l = lines_of next tab l.kept l.fault
lines_after page Save next tab l = lines_of next tab l.line l.fault
lines_after page Restore next tab l = lines_of l.kept Outside l.kept l.fault
lines_after page (Last n) next tab l = lines_of next tab l.kept l.fault
lines_after page (Fault n place) next tab l = lines_of next tab l.kept (line_at page (within_end page place))
lines_after page (Refuse site note) next tab l = lines_of next tab l.kept l.fault

-- the numbers of lines and columns, as docs/NUMBERS.md lists them
unfoldable pub line_in_range : Line → Bool
line_in_range line = leb line.number highest && leb line.column highest_column

unfoldable pub lines_in_range : Lines → Bool
lines_in_range l = line_in_range l.line && (line_in_range l.kept && line_in_range l.fault)
