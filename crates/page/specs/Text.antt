-- The text of a page (docs/SCOPE.md, the answer table, row 4): well-formed UTF-8 with no carriage return. The fault is the
-- earlier of the first byte 13 and the first byte of the first ill-formed sequence.
use Rattle.std.specs.Prelude.{ℕ, zero, suc, ◌+◌, ◌-◌, ◌<◌, ◌≡◌, ◌||◌, ◌⊎◌, eqb, length, get_or, take, drop}
use mathlib.Core.List.{List, [], ◌∷◌, Memᴰ}
use Rattle.base.specs.Byte.{carriage_return}
use Rattle.base.specs.If.{when◌then◌else◌}
use Rattle.page.specs.Utf8.{sequence, Begins, WellFormed}

-- what a reading finds: no fault, or the first one's offset
pub data Reading : Type 0 where
  good : Reading
  fault : ℕ → Reading

-- The text from the offset `at` on. `skip` counts the bytes that still belong to a sequence that was found whole.
unfoldable pub read_from : ℕ → ℕ → List ℕ → Reading
read_from skip at [] = good
read_from zero at (b ∷ t) =
    when eqb b carriage_return || eqb (sequence (b ∷ t)) 0 then fault at
    else read_from (sequence (b ∷ t) - 1) (at + 1) t
read_from (suc k) at (b ∷ t) = read_from k (at + 1) t

abbrev pub read_text : List ℕ → Reading
read_text t = read_from 0 0 t

-- The same with no word of how it is read: what makes a text good, and what makes the offset o its first fault.
-- That the two say the same is shown in proofs/Meaning.antt.

abbrev pub NoReturn : List ℕ → Type 0
NoReturn t = Memᴰ carriage_return t → ⊥

pub record GoodText (t : List ℕ) : Type 0 where
  pub formed : WellFormed t
  pub plain : NoReturn t

pub record FirstFault (t : List ℕ) (o : ℕ) : Type 0 where
  pub here : o < length t
  pub before : GoodText (take o t)
  pub fault : (get_or t o 0 ≡ carriage_return) ⊎ (Begins (drop o t) → ⊥)
