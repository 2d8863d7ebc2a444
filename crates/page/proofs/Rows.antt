-- The rows of Table 3-7 begin with bytes of their own, so the first byte of a sequence says which row it is of.
use Prim.Native.Nat.{ℕ, zero, suc, ◌≤◌, ◌<◌}
use native.Mathlib.Nat.{not-suc-le-zero, le_of_suc-le-suc}
use native.Mathlib.Omega.{arith}
use mathlib.Core.Path.{◌≡◌, refl, sym, ◌∙◌, subst}
use mathlib.Core.Bool.{Bool, true, false, ◌&&◌}
use mathlib.Core.Logic.{⊎_elim}
use mathlib.Core.List.Memᴰ
use mathlib.Core.List.{List, [], ◌∷◌, Memᴰ}
use borrow.Author.Tests.{leb-true}
use lib.Dec.{leb}
use lib.ListN.{length, get_or, drop}
use Rattle.base.specs.If.{when◌then◌else◌}
use Rattle.base.proofs.Choice.{if_yes, if_no, case, and_no, both}
use Rattle.base.specs.Range.{within}
use Rattle.base.proofs.Ranges.{below, above}
use Rattle.page.specs.Utf8.{Range, Row, holds, table, begins, sequence_in, sequence}

pub range_low : (r : Range) (b : ℕ) → holds r b ≡ true → r.0 ≤ b
unfolding within
range_low r b e = leb-true r.0 b (both (leb r.0 b) (leb b r.1) e).0

range_high : (r : Range) (b : ℕ) → holds r b ≡ true → b ≤ r.1
unfolding within
range_high r b e = leb-true b r.1 (both (leb r.0 b) (leb b r.1) e).1

-- one row looked at

first_fits : (r : Range) (row : Row) (b : ℕ) (t : List ℕ) → holds r b ≡ true → begins (r ∷ row) (b ∷ t) ≡ begins row t
unfolding begins
first_fits r row b t e = rw e

first_fails : (r : Range) (row : Row) (b : ℕ) (t : List ℕ) → holds r b ≡ false → begins (r ∷ row) (b ∷ t) ≡ false
unfolding begins
first_fails r row b t e = and_no (holds r b) (begins row t) e

pub row_fits : (row : Row) (rows : List Row) (t : List ℕ) → begins row t ≡ true → sequence_in (row ∷ rows) t ≡ length row
unfolding sequence_in
row_fits row rows t e = sym (if_yes ℕ (begins row t) (length row) (length row) (sequence_in rows t) e refl)

pub row_fails : (row : Row) (rows : List Row) (t : List ℕ) → begins row t ≡ false → sequence_in (row ∷ rows) t ≡ sequence_in rows t
unfolding sequence_in
row_fails row rows t e = sym (if_no ℕ (begins row t) (sequence_in rows t) (length row) (sequence_in rows t) e refl)

-- each row begins with bytes from k on, and above those with which the row before it begins
ascending : ℕ → List Row → Bool
ascending k [] = true
ascending k ([] ∷ rows) = false
ascending k ((r ∷ row) ∷ rows) = leb k r.0 && (leb r.0 r.1 && ascending (suc r.1) rows)

record Ascends (k : ℕ) (r : Range) (rows : List Row) : Type 0 where
  from : k ≤ r.0
  ordered : r.0 ≤ r.1
  rest : ascending (suc r.1) rows ≡ true

ascends : (k : ℕ) (r : Range) (row : Row) (rows : List Row) → ascending k ((r ∷ row) ∷ rows) ≡ true → Ascends k r rows
unfolding ascending
ascends k r row rows a =
    let p = both (leb k r.0) (leb r.0 r.1 && ascending (suc r.1) rows) a in
    let q = both (leb r.0 r.1) (ascending (suc r.1) rows) p.1 in
    record { from = leb-true k r.0 p.0; ordered = leb-true r.0 r.1 q.0; rest = q.1 }

table_ascends : ascending 0 table ≡ true
unfolding ascending table
table_ascends = refl

-- no row holds a first byte below all of theirs
none_below : (k : ℕ) (rows : List Row) (b : ℕ) (t : List ℕ) → ascending k rows ≡ true → b < k → sequence_in rows (b ∷ t) ≡ 0
unfolding sequence_in ascending
none_below k [] b t a h = refl
none_below k ([] ∷ rows) b t a h = cc
none_below k ((r ∷ row) ∷ rows) b t a h =
    let s = ascends k r row rows a in
    row_fails (r ∷ row) rows (b ∷ t) (first_fails r row b t (below r.0 r.1 b (omega arith)))
    ∙ none_below (suc r.1) rows b t s.rest (omega arith)

-- the row whose first range holds the first byte decides
abbrev pub Decided : Range → Row → ℕ → List ℕ → List Row → Type 0
Decided r row b t rows = sequence_in rows (b ∷ t) ≡ (when begins row t then length (r ∷ row) else 0)

-- when it stands at the head of the rows,
own_row : (k : ℕ) (r : Range) (row : Row) (rows : List Row) (b : ℕ) (t : List ℕ) →
    ascending k ((r ∷ row) ∷ rows) ≡ true → holds r b ≡ true →
    (k ≤ b) × Decided r row b t ((r ∷ row) ∷ rows)
own_row k r row rows b t a w =
    let s = ascends k r row rows a in
    let low = range_low r b w in
    let high = range_high r b w in (
      omega arith,
      case (Decided r row b t ((r ∷ row) ∷ rows)) (begins row t)
          (λ e. row_fits (r ∷ row) rows (b ∷ t) (first_fits r row b t w ∙ e)
          ∙ if_yes ℕ (begins row t) (length (r ∷ row)) (length (r ∷ row)) 0 e refl)
          (λ e. row_fails (r ∷ row) rows (b ∷ t) (first_fits r row b t w ∙ e)
          ∙ none_below (suc r.1) rows b t s.rest (omega arith)
          ∙ if_no ℕ (begins row t) 0 (length (r ∷ row)) 0 e refl),
    )

-- and wherever it stands
by_first : (k : ℕ) (rows : List Row) (r : Range) (row : Row) (b : ℕ) (t : List ℕ) →
    ascending k rows ≡ true → Memᴰ (r ∷ row) rows → holds r b ≡ true →
    (k ≤ b) × Decided r row b t rows
unfolding ascending
by_first k [] r row b t a m w = absurd (Memᴰ.not-nil m)
by_first k ([] ∷ rows) r row b t a m w = let z : ◌≡◌ {A = ℕ} 0 1 = cc in absurd (omega arith)
by_first k ((q ∷ other) ∷ rows) r row b t a m w =
    let s = ascends k q other rows a in
    ⊎_elim (λ e. at_head e) (λ m'. further (by_first (suc q.1) rows r row b t s.rest m' w)) (Memᴰ.cases_cons m)
  where
    at_head : (◌≡◌ {A = Row} (r ∷ row) (q ∷ other)) → (k ≤ b) × Decided r row b t ((q ∷ other) ∷ rows)
    at_head e =
        subst (λ (x : Row). ascending k (x ∷ rows) ≡ true → (k ≤ b) × Decided r row b t (x ∷ rows)) e
        (λ a'. own_row k r row rows b t a' w) a

    further : (suc q.1 ≤ b) × Decided r row b t rows → (k ≤ b) × Decided r row b t ((q ∷ other) ∷ rows)
    further ih =
        let s = ascends k q other rows a in
        let f = first_fails q other b t (above q.0 q.1 b ih.0) in
        (omega arith, row_fails (q ∷ other) rows (b ∷ t) f ∙ ih.1)

pub by_row : (r : Range) (row : Row) (b : ℕ) (t : List ℕ) → Memᴰ (r ∷ row) table → holds r b ≡ true →
    Decided r row b t table
by_row r row b t m w = (by_first 0 table r row b t table_ascends m w).1

-- every row's first range ends at m or before it
topped : ℕ → List Row → Bool
topped m [] = true
topped m ([] ∷ rows) = false
topped m ((r ∷ row) ∷ rows) = leb r.1 m && topped m rows

none_above : (m : ℕ) (rows : List Row) (b : ℕ) (t : List ℕ) → topped m rows ≡ true → m < b → sequence_in rows (b ∷ t) ≡ 0
unfolding sequence_in topped
none_above m [] b t e h = refl
none_above m ([] ∷ rows) b t e h = cc
none_above m ((r ∷ row) ∷ rows) b t e h =
    let p = both (leb r.1 m) (topped m rows) e in
    let top = leb-true r.1 m p.0 in
    row_fails (r ∷ row) rows (b ∷ t) (first_fails r row b t (above r.0 r.1 b (omega arith)))
    ∙ none_above m rows b t p.1 h

-- the first bytes that no row has: those past the last row's, and those between the first row's and the second's
pub past_the_rows : (b : ℕ) (t : List ℕ) → 0xF4 < b → sequence (b ∷ t) ≡ 0
unfolding topped table
past_the_rows b t h = none_above 0xF4 table b t refl h

pub between_rows : (b : ℕ) (t : List ℕ) → 0x7F < b → b < 0xC2 → sequence (b ∷ t) ≡ 0
unfolding ascending table
between_rows b t l h =
    row_fails ((0x00, 0x7F) ∷ []) (drop 1 table) (b ∷ t) (first_fails (0x00, 0x7F) [] b t (above 0x00 0x7F b l))
    ∙ none_below 0xC2 (drop 1 table) b t refl h

-- a sequence of some length is one of a row of that length
pub found : (rows : List Row) (t : List ℕ) (n : ℕ) → sequence_in rows t ≡ suc n →
    (row : Row) × Memᴰ row rows × (begins row t ≡ true) × (length row ≡ suc n)
unfolding sequence_in
found [] t n e = let z : ◌≡◌ {A = ℕ} 0 1 = cc in absurd (omega arith)
found (row ∷ rows) t n e =
    case ((x : Row) × Memᴰ x (row ∷ rows) × (begins x t ≡ true) × (length x ≡ suc n)) (begins row t)
    (λ y. (row, Memᴰ.head refl, y, sym (row_fits row rows t y) ∙ e))
    (λ y. let h = found rows t n (sym (row_fails row rows t y) ∙ e) in (h.0, Memᴰ.tail h.1, h.2, h.3))

-- no row is empty
no_empty : (k : ℕ) (rows : List Row) → ascending k rows ≡ true → Memᴰ [] rows → ⊥
unfolding ascending
no_empty k [] a m = Memᴰ.not-nil m
no_empty k ([] ∷ rows) a m = let z : ◌≡◌ {A = ℕ} 0 1 = cc in omega arith
no_empty k ((r ∷ row) ∷ rows) a m =
    ⊎_elim (λ e. let z : ◌≡◌ {A = ℕ} 0 1 = cc in omega arith) (λ m'. no_empty (suc r.1) rows (ascends k r row rows a).rest m')
    (Memᴰ.cases_cons m)

pub row_nonempty : Memᴰ [] table → ⊥
row_nonempty m = no_empty 0 table table_ascends m

-- the rows by their numbers, from 0
among_rows : (rows : List Row) (k : ℕ) → k < length rows → Memᴰ (get_or rows k []) rows
among_rows [] k h = absurd (not-suc-le-zero h)
among_rows (row ∷ rows) zero h = Memᴰ.head refl
among_rows (row ∷ rows) (suc k) h = Memᴰ.tail (among_rows rows k (le_of_suc-le-suc h))

pub listed : (k : ℕ) → k < length table → Memᴰ (get_or table k []) table
listed k h = among_rows table k h
