-- A page, as the states see it: the list of its bytes' numbers.
use Rattle.std.specs.Prelude.{ℕ, ◌-◌, Bool, ◌&&◌, ◌||◌, List, length, get_or, ltb, eqb}
use Rattle.base.specs.Byte.{line_feed, end_of_page}
use Rattle.base.specs.If.{when◌then◌else◌}

-- the longest page that is taken (docs/SCOPE.md, row 2)
abbrev pub page_limit : ℕ
page_limit = 1048576

-- the number of the byte at a place
unfoldable pub byte_at : List ℕ → ℕ → ℕ
byte_at page at = when ltb at (length page) then get_or page at 0 else end_of_page

-- the byte before a place is a line feed (the Rust's `previous`)
unfoldable pub after_line_feed : List ℕ → ℕ → Bool
after_line_feed page at = ltb 0 at && eqb (byte_at page (at - 1)) line_feed

-- column 1: the page's first byte, or one that follows a line feed
abbrev pub in_column_one : List ℕ → ℕ → Bool
in_column_one page at = eqb at 0 || after_line_feed page at
