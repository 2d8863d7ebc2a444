-- Unicode's Table 3-7, "Well-Formed UTF-8 Byte Sequences": which bytes make one character.
use Rattle.std.specs.Prelude.{ℕ, zero, suc, ◌≡◌, Bool, true, false, ◌&&◌, Option, Some, None, length}
use mathlib.Core.List.{List, [], ◌∷◌, ◌++◌, Memᴰ}
use Rattle.base.specs.If.{when◌then◌else◌}
use Rattle.base.specs.Range.{within}

-- a byte's range, both ends in it
abbrev pub Range : Type 0
Range = ℕ × ℕ

abbrev pub holds : Range → ℕ → Bool
holds r b = within r.0 r.1 b

-- a row of the table: a range for each byte of the sequence
abbrev pub Row : Type 0
Row = List Range

-- a byte that is not the first of its sequence, where the row says nothing narrower
abbrev pub tail : Range
tail = (0x80, 0xBF)

-- the nine rows, in the table's order
unfoldable pub table : List Row
table =
    ((0x00, 0x7F) ∷ []) ∷
    ((0xC2, 0xDF) ∷ tail ∷ []) ∷
    ((0xE0, 0xE0) ∷ (0xA0, 0xBF) ∷ tail ∷ []) ∷
    ((0xE1, 0xEC) ∷ tail ∷ tail ∷ []) ∷
    ((0xED, 0xED) ∷ (0x80, 0x9F) ∷ tail ∷ []) ∷
    ((0xEE, 0xEF) ∷ tail ∷ tail ∷ []) ∷
    ((0xF0, 0xF0) ∷ (0x90, 0xBF) ∷ tail ∷ tail ∷ []) ∷
    ((0xF1, 0xF3) ∷ tail ∷ tail ∷ tail ∷ []) ∷
    ((0xF4, 0xF4) ∷ (0x80, 0x8F) ∷ tail ∷ tail ∷ []) ∷
    []

-- the text begins with bytes in the row's ranges, one for each
unfoldable pub begins : Row → List ℕ → Bool
begins [] t = true
begins (r ∷ row) [] = false
begins (r ∷ row) (b ∷ t) = holds r b && begins row t

-- how many bytes the sequence takes with which the text begins: as many as the row has that it is of; 0 where it is of none
unfoldable pub sequence_in : List Row → List ℕ → ℕ
sequence_in [] t = 0
sequence_in (row ∷ rows) t = when begins row t then length row else sequence_in rows t

abbrev pub sequence : List ℕ → ℕ
sequence t = sequence_in table t

-- the same, where 0 is none
abbrev pub size_of : ℕ → Option ℕ
size_of zero = None
size_of (suc n) = Some (suc n)

abbrev pub sequence_size : List ℕ → Option ℕ
sequence_size t = size_of (sequence t)

-- a sequence begins the text
pub record Begins (t : List ℕ) : Type 0 where
  pub row : Row
  pub listed : Memᴰ row table
  pub begun : begins row t ≡ true

-- the bytes are one sequence, and nothing more
pub record Sequence (s : List ℕ) : Type 0 where
  pub row : Row
  pub listed : Memᴰ row table
  pub begun : begins row s ≡ true
  pub whole : length s ≡ length row

-- well-formed text: sequences, one after the other
pub data WellFormed : List ℕ → Type 0 where
  empty : WellFormed []
  more : {s t : List ℕ} → Sequence s → WellFormed t → WellFormed (s ++ t)
