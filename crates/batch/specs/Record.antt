-- A record with its answer: which of its fields an answer's values go to.
--
-- docs/SCOPE.md, 'A page's openings in one call': "the answer's fields as plain numbers in the order of docs/NUMBERS.md: answer, place or
-- end, line, column, where, note, events, steps; what an answer does not carry is 0".
use Rattle.std.specs.Prelude.{ℕ, List, [], ◌∷◌, eqb}
use Rattle.base.specs.If.{when◌then◌else◌}
use Rattle.base.specs.Table.{find}
use Rattle.base.specs.State.{done, nok, not_ascii, eof, unexpected, full}
use Rattle.base.specs.Number.{bad_text}
use Rattle.scan.specs.Answer.{Said}
use Rattle.batch.specs.declared.Opening.{Opening}

-- the fields, numbered in their order
abbrev place : ℕ
place = 0

abbrev line : ℕ
line = 1

abbrev column : ℕ
column = 2

abbrev site : ℕ
site = 3

abbrev note : ℕ
note = 4

abbrev pub events : ℕ
events = 5

abbrev steps : ℕ
steps = 6

-- what several answers carry: a place with its line and column, in front; events and steps, last
abbrev spot : List ℕ → List ℕ
spot rest = place ∷ line ∷ column ∷ rest

abbrev tally : List ℕ
tally = events ∷ steps ∷ []

-- the answer table's last column, for the answers that a counting scan can be given: 2 and 3 carry nothing
abbrev carries : List (ℕ × List ℕ)
carries =
    (done, place ∷ tally)
    ∷ (nok, tally)
    ∷ (bad_text, spot [])
    ∷ (not_ascii, spot tally)
    ∷ (eof, spot (site ∷ tally))
    ∷ (unexpected, spot (site ∷ note ∷ tally))
    ∷ (full, spot tally)
    ∷ []

-- the value that goes to a field, of values that go to these fields
unfoldable pub value_in : ℕ → List ℕ → List ℕ → ℕ
value_in field [] values = 0
value_in field (f ∷ fields) [] = 0
value_in field (f ∷ fields) (v ∷ values) = when eqb field f then v else value_in field fields values

unfoldable pub carried : ℕ → Said → ℕ
carried field a = value_in field (find a.number carries []) a.values

-- what was asked, what is answered, and the number of the event at which its own begin
unfoldable pub filled_of : Opening → ℕ → Said → Opening
filled_of o first a =
    record {
      start = o.start;
      construct = o.construct;
      kind = o.kind;
      flags = o.flags;
      answer = a.number;
      place = carried place a;
      line = carried line a;
      column = carried column a;
      site = carried site a;
      note = carried note a;
      events = carried events a;
      steps = carried steps a;
      first = first;
    }
