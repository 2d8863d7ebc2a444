-- A page that is handed over (docs/SCOPE.md, the answer table, rows 2, 3 and 4).
use Rattle.std.specs.Prelude.{ℕ, ◌+◌, ◌≤◌, Bool, List, Result, Ok, Err, leb, ltb, length, take, drop}
use Rattle.base.specs.If.{when◌then◌else◌}
use Rattle.base.specs.Page.{page_limit}
use Rattle.page.specs.declared.Fault.{Fault}
use Rattle.page.specs.declared.Fault.TheVariants.{TooLong, BadStart, BadText}
use Rattle.page.specs.declared.line.Line.{Line}
use Rattle.page.specs.Line.{spot_at, line_at}
use Rattle.page.specs.Text.{Reading, good, fault, read_text}

-- the part that begins at `at` and is n long lies inside so many lent bytes
abbrev pub lies_inside : ℕ → ℕ → ℕ → Bool
lies_inside lent at n = leb (at + n) lent

abbrev pub page_of : List ℕ → ℕ → ℕ → List ℕ
page_of bytes at n = take n (drop at bytes)

-- short enough, the start in the page, and the page in the lent bytes
pub record Admitted (bytes : List ℕ) (at n start : ℕ) : Type 0 where
  pub short : n ≤ page_limit
  pub starts : start ≤ n
  pub lies : at + n ≤ length bytes

-- what a page is answered whose text was read: the line of its start, or where its first fault is
abbrev pub checked_by : List ℕ → ℕ → Reading → Result Line Fault
checked_by page start good = Ok (line_at page start)
checked_by page start (fault o) = Err (BadText (spot_at page o))

-- The answer, the refusals in the order of their numbers. When each is given, both ways: proofs/Answers.antt.
abbrev pub page_check : List ℕ → ℕ → ℕ → ℕ → Result Line Fault
page_check bytes at n start =
    when ltb page_limit n then Err TooLong
    else when ltb n start then Err BadStart
    else when lies_inside (length bytes) at n then checked_by (page_of bytes at n) start (read_text (page_of bytes at n))
    else Err BadStart
