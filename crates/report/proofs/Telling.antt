-- What is told of an answer is what it says: its number, and its values, none left out and none added.
use Prim.Native.Nat.{ℕ}
use mathlib.Core.Path.{◌≡◌, refl}
use mathlib.Core.List.{List, [], ◌∷◌}
use lib.Dec.{eqb}
use Rattle.base.specs.If.{when◌then◌else◌}
use Rattle.base.specs.Number.{no_place}
use Rattle.base.specs.Table.{find}
use Rattle.page.specs.declared.line.Spot.{Spot}
use Rattle.scan.specs.declared.Tally.{Tally}
use Rattle.scan.specs.declared.Answer.{Answer}
use Rattle.scan.specs.declared.Answer.TheVariants.{
  Done,
  Nok,
  TooLong,
  BadStart,
  BadText,
  NotAscii,
  Eof,
  Unexpected,
  VerdictError,
  VerdictEof,
  Full,
  BadCall,
  Asking,
  Paused,
  Kept,
}
use Rattle.scan.specs.Answer.{said, said_by}
use Rattle.report.specs.AnswerText.{answer_names, answer_name}
use Rattle.report.specs.Told.{told_of, carried}

pub told_is_said : (a : Answer) → said (told_of a).number (carried (told_of a)) ≡ said_by a
unfolding carried when◌then◌else◌
told_is_said (Done end made) = refl
told_is_said (Nok made) = refl
told_is_said TooLong = refl
told_is_said BadStart = refl
told_is_said (BadText p) = refl
told_is_said (NotAscii p made) = refl
told_is_said (Eof p site made) = refl
told_is_said (Unexpected p site note made) = refl
told_is_said (VerdictError p number made) = refl
told_is_said (VerdictEof p number made) = refl
told_is_said (Full p made) = refl
told_is_said BadCall = refl
told_is_said (Asking p made) = refl
told_is_said (Paused p made) = refl
told_is_said Kept = refl

-- ---- the table of numbers and names, as one computed claim

-- one answer of each case, in the order of their numbers
abbrev cases : Spot → Tally → List Answer
cases p made =
    Done 0 made
    ∷ Nok made
    ∷ TooLong
    ∷ BadStart
    ∷ BadText p
    ∷ NotAscii p made
    ∷ Eof p 0 made
    ∷ Unexpected p 0 0 made
    ∷ VerdictError p 0 made
    ∷ VerdictEof p 0 made
    ∷ Full p made
    ∷ BadCall
    ∷ Asking p made
    ∷ Paused p made
    ∷ Kept
    ∷ []

-- their numbers, with the names that these numbers have
abbrev named : List Answer → List (ℕ × List ℕ)
named [] = []
named (a ∷ rest) = ((said_by a).number, answer_name (said_by a).number) ∷ named rest

-- the table but for the answer that a worker alone gives
abbrev of_scans : List (ℕ × List ℕ) → List (ℕ × List ℕ)
of_scans [] = []
of_scans (e ∷ es) = when eqb e.0 no_place then of_scans es else e ∷ of_scans es

-- the table names every answer, each under its number, and nothing else
pub every_number_is_named : (p : Spot) (made : Tally) → named (cases p made) ≡ of_scans answer_names
unfolding answer_name find when◌then◌else◌
every_number_is_named p made = refl
