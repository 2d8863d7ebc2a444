-- An answer is known by its number and its values: no two cases of the enum say the same.
use Prim.Native.Nat.{ℕ, ◌+◌}
use mathlib.Core.Path.{◌≡◌, refl, sym, ap, ◌∙◌}
use mathlib.Core.List.{List, [], ◌∷◌}
use lib.ListN.{get_or}
use Rattle.base.specs.If.{when◌then◌else◌}
use Rattle.base.specs.Table.{find}
use Rattle.page.specs.declared.line.Spot.{Spot}
use Rattle.page.specs.Line.{spot}
use Rattle.scan.specs.declared.Tally.{Tally}
use Rattle.scan.specs.declared.Answer.{Answer}
use Rattle.scan.specs.declared.Answer.TheVariants.{
  Done,
  Nok,
  TooLong,
  BadStart,
  BadText,
  NotAscii,
  Eof,
  Unexpected,
  VerdictError,
  VerdictEof,
  Full,
  BadCall,
  Asking,
  Paused,
  Kept,
}
use Rattle.scan.specs.Answer.{Said, said_by}

-- what a scan has made, by values k and on; and the place that stands first
abbrev tally_at : (ℕ → ℕ) → ℕ → Tally
tally_at v k = record { events = v k; steps = v (k + 1) }

abbrev spot_first : (ℕ → ℕ) → Spot
spot_first v = spot (v 0) (v 1) (v 2)

-- the table of docs/NUMBERS.md, read back: the answer that has a number and values
abbrev table : (ℕ → ℕ) → List (ℕ × Answer)
table v =
    (0, Done (v 0) (tally_at v 1))
    ∷ (1, Nok (tally_at v 0))
    ∷ (2, TooLong)
    ∷ (3, BadStart)
    ∷ (4, BadText (spot_first v))
    ∷ (5, NotAscii (spot_first v) (tally_at v 3))
    ∷ (6, Eof (spot_first v) (v 3) (tally_at v 4))
    ∷ (7, Unexpected (spot_first v) (v 3) (v 4) (tally_at v 5))
    ∷ (8, VerdictError (spot_first v) (v 3) (tally_at v 4))
    ∷ (9, VerdictEof (spot_first v) (v 3) (tally_at v 4))
    ∷ (10, Full (spot_first v) (tally_at v 3))
    ∷ (31, Asking (spot_first v) (tally_at v 3))
    ∷ (32, Paused (spot_first v) (tally_at v 3))
    ∷ (33, Kept)
    ∷ []

-- 12 is every other number's
pub answer_said : Said → Answer
answer_said a = find a.number (table (λ k. get_or a.values k 0)) BadCall

pub read_back : (a : Answer) → answer_said (said_by a) ≡ a
unfolding answer_said find when◌then◌else◌
read_back (Done end t) = refl
read_back (Nok t) = refl
read_back TooLong = refl
read_back BadStart = refl
read_back (BadText p) = refl
read_back (NotAscii p t) = refl
read_back (Eof p site t) = refl
read_back (Unexpected p site note t) = refl
read_back (VerdictError p number t) = refl
read_back (VerdictEof p number t) = refl
read_back (Full p t) = refl
read_back BadCall = refl
read_back (Asking p t) = refl
read_back (Paused p t) = refl
read_back Kept = refl

-- so a promise that says number and values leaves no choice of the answer
pub one_answer_for_each_number : (a b : Answer) → said_by a ≡ said_by b → a ≡ b
one_answer_for_each_number a b e = sym (read_back a) ∙ ap answer_said e ∙ read_back b
