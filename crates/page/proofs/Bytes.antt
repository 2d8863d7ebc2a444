-- Well-formed text holds bytes alone: no row of the table of sequences has a number above 255.
use Prim.Native.Nat.{ℕ, zero, suc, ◌≤◌}
use native.Mathlib.Omega.{arith}
use mathlib.Core.Path.{◌≡◌, refl, ap, ◌∙◌}
use mathlib.Core.Bool.{Bool, true, ◌&&◌}
use mathlib.Core.Logic.{⊎_elim}
use mathlib.Core.List.Memᴰ
use mathlib.Core.List.{List, [], ◌∷◌, ◌++◌, Memᴰ}
use lib.Dec.{leb}
use lib.ListN.{length, get_or}
use borrow.Author.Tests.{leb-true}
use Rattle.base.proofs.Choice.{both}
use Rattle.base.proofs.Ranges.{within_is}
use Rattle.base.specs.Byte.{last_byte}
use Rattle.page.specs.Utf8.{Row, holds, table, begins, WellFormed, empty, more}

-- ---- the table

-- no range of a row, and of no row of a table, goes further than bytes do
of_bytes : Row → Bool
of_bytes [] = true
of_bytes (r ∷ row) = leb r.1 last_byte && of_bytes row

all_of_bytes : List Row → Bool
all_of_bytes [] = true
all_of_bytes (row ∷ rows) = of_bytes row && all_of_bytes rows

table_of_bytes : all_of_bytes table ≡ true
unfolding of_bytes all_of_bytes table
table_of_bytes = refl

row_of_bytes : (rows : List Row) (row : Row) → all_of_bytes rows ≡ true → Memᴰ row rows → of_bytes row ≡ true
unfolding all_of_bytes
row_of_bytes [] row e m = absurd (Memᴰ.not-nil m)
row_of_bytes (first ∷ rows) row e m =
    let p = both (of_bytes first) (all_of_bytes rows) e in
    ⊎_elim (λ (s : row ≡ first). ap of_bytes s ∙ p.0) (λ s. row_of_bytes rows row p.1 s) (Memᴰ.cases_cons m)

-- ---- text

-- the numbers of a list are bytes
abbrev pub Bytes : List ℕ → Type 0
Bytes [] = Unit {0}
Bytes (b ∷ t) = (b ≤ last_byte) × Bytes t

bytes_append : (s t : List ℕ) → Bytes s → Bytes t → Bytes (s ++ t)
bytes_append [] t p q = q
bytes_append (b ∷ s) t p q = (p.0, bytes_append s t p.1 q)

bytes_of_row : (row : Row) (s : List ℕ) → of_bytes row ≡ true → begins row s ≡ true → length s ≡ length row → Bytes s
unfolding of_bytes begins
bytes_of_row [] [] h e l = tt
bytes_of_row [] (b ∷ s) h e l = absurd (omega arith)
bytes_of_row (r ∷ row) [] h e l = tt
bytes_of_row (r ∷ row) (b ∷ s) h e l =
    let p = both (leb r.1 last_byte) (of_bytes row) h in
    let q = both (holds r b) (begins row s) e in
    (omega (arith, leb-true r.1 last_byte p.0, (within_is r.0 r.1 b q.0).1), bytes_of_row row s p.1 q.1 (omega arith))

pub formed_of_bytes : {t : List ℕ} → WellFormed t → Bytes t
formed_of_bytes empty = tt
formed_of_bytes (more {s} {t} q w) = bytes_append s t (bytes_of_row q.row s (row_of_bytes table q.row table_of_bytes q.listed) q.begun q.whole) (formed_of_bytes w)

pub byte_small : (t : List ℕ) (i : ℕ) → Bytes t → get_or t i 0 ≤ last_byte
byte_small [] i p = omega arith
byte_small (b ∷ t) zero p = p.0
byte_small (b ∷ t) (suc i) p = byte_small t i p.1
