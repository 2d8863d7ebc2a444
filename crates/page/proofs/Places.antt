-- What the bytes from a place of the page on begin with, one byte after the other.
use Prim.Native.Nat.{ℕ, zero, suc, ◌+◌, ◌-◌, ◌≤◌, ◌<◌}
use native.Mathlib.Numerals.{add-one}
use native.Mathlib.Omega.{arith}
use mathlib.Core.Path.{◌≡◌, refl, sym, ◌∙◌, ap, ap₂}
use mathlib.Core.Bool.{Bool, true, false, ◌&&◌}
use mathlib.Core.List.{List, [], ◌∷◌, Memᴰ}
use lib.Dec.{lit<}
use lib.ListN.{length, get_or, take, drop, length-drop, drop_of_length-le}
use lib.Seq.{take_all, drop-cons}
use Rattle.std.specs.Prelude.{Option, Some, None}
use Rattle.std.proofs.lemmas.List.{drop_more}
use Rattle.base.specs.If.{when◌then◌else◌}
use Rattle.base.proofs.Choice.{if_yes, and_no}
use Rattle.base.proofs.Ranges.{is_within}
use Rattle.page.specs.Utf8.{Range, Row, holds, table, begins, sequence, size_of, sequence_size}
use Rattle.page.proofs.Rows.{listed, by_row, past_the_rows, between_rows, row_nonempty}

-- the page from a place on: its byte, and the page from the next place on
pub from_place : (page : List ℕ) (p : ℕ) → p < length page → drop p page ≡ get_or page p 0 ∷ drop (p + 1) page
from_place page p h = rw add-one (drop-cons page p 0 h)

-- ---- a row's ranges, one after the other

module _ (row : Row) (t : List ℕ) where
  -- what is left of the row, and of the bytes, decides
  abbrev pub Left : ℕ → Type 0
  Left i = begins row t ≡ begins (drop i row) (drop i t)

  pub left_none : Left 0
  left_none = refl

  pub left_all : (i : ℕ) → Left i → length row ≤ i → begins row t ≡ true
  unfolding begins
  left_all i h e = h ∙ ap (λ (r : Row). begins r (drop i t)) (drop_of_length-le row {i = i} e)

  module _ (i : ℕ) (h : Left i) (more : i < length row) (d : Range) where
    next_range : drop i row ≡ get_or row i d ∷ drop (i + 1) row
    next_range = drop_more row i d more

    pub left_short : length t ≤ i → begins row t ≡ false
    unfolding begins
    left_short e = h ∙ ap₂ begins next_range (drop_of_length-le t {i = i} e)

    -- the byte, as the code finds it
    module _ (here : i < length t) (b : ℕ) (is : b ≡ get_or t i b) where
      next_byte : begins row t ≡ (holds (get_or row i d) b && begins (drop (i + 1) row) (drop (i + 1) t))
      unfolding begins
      next_byte = h ∙ ap₂ begins next_range (drop_more t i b here ∙ ap (λ (x : ℕ). x ∷ drop (i + 1) t) (sym is))

      pub left_other : holds (get_or row i d) b ≡ false → begins row t ≡ false
      left_other e = next_byte ∙ and_no _ _ e

      pub left_more : holds (get_or row i d) b ≡ true → Left (i + 1)
      left_more e = next_byte ∙ rw e

module _ (page : List ℕ) (p : ℕ) (here : p < length page) where
  pub row_at : (r : Range) (row : Row) → Memᴰ (r ∷ row) table → holds r (get_or page p 0) ≡ true →
      sequence (drop p page) ≡ (when begins row (drop (p + 1) page) then length (r ∷ row) else 0)
  row_at r row m w = ap sequence (from_place page p here) ∙ by_row r row (get_or page p 0) (drop (p + 1) page) m w

  pub past_at : 0xF4 < get_or page p 0 → sequence (drop p page) ≡ 0
  past_at h = ap sequence (from_place page p here) ∙ past_the_rows (get_or page p 0) (drop (p + 1) page) h

  pub between_at : 0x7F < get_or page p 0 → get_or page p 0 < 0xC2 → sequence (drop p page) ≡ 0
  between_at l h = ap sequence (from_place page p here) ∙ between_rows (get_or page p 0) (drop (p + 1) page) l h

  -- one byte below 0x80 is a sequence
  pub ascii_at : get_or page p 0 < 0x80 → sequence (drop p page) ≡ 1
  unfolding table begins
  ascii_at h =
      row_at (0x00, 0x7F) [] (listed 0 (lit< tt)) (is_within 0x00 0x7F (get_or page p 0) (omega arith) (omega arith))
      ∙ sym (if_yes ℕ (begins [] (drop (p + 1) page)) 1 1 0 refl refl)

-- the row's first range, and the ranges after it
abbrev pub first : Row → Range
first [] = (1, 0)
first (r ∷ row) = r

abbrev pub rest : Row → Row
rest [] = []
rest (r ∷ row) = row

-- where 0 is none
size_when : (b : Bool) (n : ℕ) → (when b then Some (suc n) else None) ≡ size_of (when b then suc n else 0)
unfolding when◌then◌else◌
size_when true n = refl
size_when false n = refl

-- the byte lies in the first range of a row, and n is what the row then says: n is the sequence's length, if one begins there
module _ (page : List ℕ) (p byte : ℕ) (here : p < length page) (is : byte ≡ get_or page p 0) where
  -- the bytes behind it, as the code cuts them
  abbrev behind : List ℕ
  behind = take (length page - (p + 1)) (drop (p + 1) page)

  all_behind : behind ≡ drop (p + 1) page
  all_behind = take_all (length page - (p + 1)) (drop (p + 1) page) (omega (arith, length-drop (p + 1) page))

  by_listed : (row : Row) → Memᴰ row table → (first row).0 ≤ byte → byte ≤ (first row).1 →
      (n : Option ℕ) → n ≡ (when begins (rest row) behind then Some (length row) else None) → n ≡ sequence_size (drop p page)
  by_listed [] m low high n e = absurd (row_nonempty m)
  by_listed (r ∷ row) m low high n e =
      e
      ∙ ap (λ (t : List ℕ). when begins row t then Some (length (r ∷ row)) else None) all_behind
      ∙ size_when (begins row (drop (p + 1) page)) (length row)
      ∙ ap size_of (sym (row_at page p here r row m (is_within r.0 r.1 (get_or page p 0) (omega arith) (omega arith))))

  pub by_number : (k : ℕ) → k < length table → (first (get_or table k [])).0 ≤ byte → byte ≤ (first (get_or table k [])).1 →
      (n : Option ℕ) → n ≡ (when begins (rest (get_or table k [])) behind then Some (length (get_or table k [])) else None) →
      n ≡ sequence_size (drop p page)
  by_number k h low high n e = by_listed (get_or table k []) (listed k h) low high n e

  pub ascii_size : byte < 0x80 → Some 1 ≡ sequence_size (drop p page)
  ascii_size h = rw (ascii_at page p here (omega arith))

  pub between_size : 0x7F < byte → byte < 0xC2 → None ≡ sequence_size (drop p page)
  between_size l h = rw (between_at page p here (omega arith) (omega arith))

  pub past_size : 0xF4 < byte → None ≡ sequence_size (drop p page)
  past_size h = rw (past_at page p here (omega arith))

-- what a size says, and none
sized_by : (k n : ℕ) → Some n ≡ size_of k → (n ≡ k) × (n ≡ 0 → ⊥)
sized_by zero n e = cc
sized_by (suc k) n e = let z : n ≡ suc k = cc in (z, λ y. omega (arith, y, z))

pub sized : (t : List ℕ) (n : ℕ) → Some n ≡ sequence_size t → (n ≡ sequence t) × (n ≡ 0 → ⊥)
sized t n = sized_by (sequence t) n

unsized_by : (k : ℕ) → None ≡ size_of k → k ≡ 0
unsized_by zero e = refl
unsized_by (suc k) e = cc

pub unsized : (t : List ℕ) → None ≡ sequence_size t → sequence t ≡ 0
unsized t = unsized_by (sequence t)
