-- An answer's number and values, each under a name of its own; together they are what the answer table of docs/SCOPE.md lists.
use Rattle.std.specs.Prelude.{ℕ, ◌-◌, List, [], ◌∷◌, ◌++◌, take, Option, Some, None}
use Rattle.page.specs.declared.line.Line.{Line}
use Rattle.page.specs.declared.line.Spot.{Spot}
use Rattle.scan.specs.declared.Tally.{Tally}
use Rattle.scan.specs.declared.Answer.{Answer}
use Rattle.scan.specs.declared.Answer.TheVariants.{
  Done,
  Nok,
  TooLong,
  BadStart,
  BadText,
  NotAscii,
  Eof,
  Unexpected,
  VerdictError,
  VerdictEof,
  Full,
  BadCall,
  Asking,
  Paused,
  Kept,
}
use Rattle.report.specs.declared.answers.Told.{Told}

-- an answer that carries nothing
abbrev pub bare_told : ℕ → Told
bare_told number =
    record { number = number; values = 0; first = 0; line = None; second = 0; third = 0; tally = None }

-- an end
abbrev pub end_told : ℕ → ℕ → Told
end_told number end =
    record { number = number; values = 1; first = end; line = None; second = 0; third = 0; tally = None }

-- so many values, of which the first is a place with its line and column
abbrev pub place_told : ℕ → ℕ → Spot → ℕ → ℕ → Told
place_told number values p second third =
    record {
      number = number;
      values = values;
      first = p.place;
      line = Some (record { number = p.line; column = p.column });
      second = second;
      third = third;
      tally = None;
    }

-- the same answer with its events and steps
abbrev pub counting_told : Told → Tally → Told
counting_told t made =
    record {
      number = t.number;
      values = t.values;
      first = t.first;
      line = t.line;
      second = t.second;
      third = t.third;
      tally = Some made;
    }

-- an answer by its number and values
abbrev pub told_of : Answer → Told
told_of (Done end made) = counting_told (end_told 0 end) made
told_of (Nok made) = counting_told (bare_told 1) made
told_of TooLong = bare_told 2
told_of BadStart = bare_told 3
told_of (BadText p) = place_told 4 1 p 0 0
told_of (NotAscii p made) = counting_told (place_told 5 1 p 0 0) made
told_of (Eof p site made) = counting_told (place_told 6 2 p site 0) made
told_of (Unexpected p site note made) = counting_told (place_told 7 3 p site note) made
told_of (VerdictError p number made) = counting_told (place_told 8 2 p number 0) made
told_of (VerdictEof p number made) = counting_told (place_told 9 2 p number 0) made
told_of (Full p made) = counting_told (place_told 10 1 p 0 0) made
told_of BadCall = bare_told 12
told_of (Asking p made) = counting_told (place_told 31 1 p 0 0) made
told_of (Paused p made) = counting_told (place_told 32 1 p 0 0) made
told_of Kept = bare_told 33

-- a place's line and column, and what a scan has made, as values
abbrev pub line_values : Option Line → List ℕ
line_values None = []
line_values (Some l) = l.number ∷ l.column ∷ []

abbrev pub tally_values : Option Tally → List ℕ
tally_values None = []
tally_values (Some made) = made.events ∷ made.steps ∷ []

-- what is told, as one list
unfoldable pub carried : Told → List ℕ
carried t =
    take t.values (t.first ∷ [])
    ++ (line_values t.line
    ++ (take (t.values - 1) (t.second ∷ t.third ∷ [])
    ++ tally_values t.tally))
