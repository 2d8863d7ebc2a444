-- Answers as numbers: which field an answer's values go to.
--
-- docs/SCOPE.md, 'From other languages': "An answer is its number and the values that docs/NUMBERS.md lists for it, each in a field of its own;
-- what an answer does not carry is 0."
use Rattle.std.specs.Prelude.{ℕ, List, [], ◌∷◌, eqb}
use Rattle.base.specs.If.{when◌then◌else◌}
use Rattle.base.specs.Table.{find}
use Rattle.base.specs.State.{done, nok, not_ascii, eof, unexpected, verdict_error, verdict_eof, full, asking}
use Rattle.base.specs.Number as number
use Rattle.scan.specs.Answer.{Said}
use Rattle.batch.specs.Record.{value_in}
use Rattle.crossing.specs.declared.AnswerNumbers.{AnswerNumbers}
use Rattle.crossing.specs.declared.BodyNumbers.{BodyNumbers}
use Rattle.crossing.specs.declared.EnoughNumbers.{EnoughNumbers}

-- the fields, numbered
abbrev place : ℕ
place = 0

abbrev line : ℕ
line = 1

abbrev column : ℕ
column = 2

abbrev site : ℕ
site = 3

abbrev note : ℕ
note = 4

abbrev verdict : ℕ
verdict = 5

abbrev events : ℕ
events = 6

abbrev steps : ℕ
steps = 7

-- what several answers carry: a place with its line and column, in front; events and steps, last
abbrev spot : List ℕ → List ℕ
spot rest = place ∷ line ∷ column ∷ rest

abbrev tally : List ℕ
tally = events ∷ steps ∷ []

-- the last column of the tables in docs/NUMBERS.md. The answers that are not listed here carry nothing, or have numbers of their own: a start,
-- a body, and the words that are enough
abbrev carries : List (ℕ × List ℕ)
carries =
    (done, place ∷ tally)
    ∷ (nok, tally)
    ∷ (number.bad_text, spot [])
    ∷ (not_ascii, spot tally)
    ∷ (eof, spot (site ∷ tally))
    ∷ (unexpected, spot (site ∷ note ∷ tally))
    ∷ (verdict_error, spot (verdict ∷ tally))
    ∷ (verdict_eof, spot (verdict ∷ tally))
    ∷ (full, spot tally)
    ∷ (asking, spot tally)
    ∷ (number.paused, spot tally)
    ∷ (number.placed, place ∷ [])
    ∷ (number.served, place ∷ [])
    ∷ []

unfoldable pub carried : ℕ → Said → ℕ
carried field a = value_in field (find a.number carries []) a.values

unfoldable pub answer_numbers : Said → AnswerNumbers
answer_numbers a =
    record {
      place = carried place a;
      line = carried line a;
      column = carried column a;
      events = carried events a;
      steps = carried steps a;
      verdict = carried verdict a;
      number = a.number;
      site = carried site a;
      note = carried note a;
    }

-- ---- a body: where it begins, its length, and its kind

abbrev from : ℕ
from = 0

abbrev size : ℕ
size = 1

abbrev body_carries : List (ℕ × List ℕ)
body_carries = (number.in_page, from ∷ size ∷ []) ∷ (number.in_scratch, size ∷ []) ∷ []

unfoldable pub body_carried : ℕ → Said → ℕ
body_carried field a = value_in field (find a.number body_carries []) a.values

-- a refusal has no kind
unfoldable pub body_numbers : Said → ℕ → BodyNumbers
body_numbers a kind =
    record {
      at = body_carried from a;
      length = body_carried size a;
      number = a.number;
      kind = when eqb a.number number.bad_call then 0 else kind;
    }

-- ---- words that are enough

abbrev enough_carries : List (ℕ × List ℕ)
enough_carries = (number.enough, size ∷ []) ∷ []

unfoldable pub enough_numbers : Said → EnoughNumbers
enough_numbers a = record { words = value_in size (find a.number enough_carries []) a.values; number = a.number }
