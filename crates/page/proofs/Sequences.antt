-- What a sequence of a row is: it decides where the reading goes on, and holds no carriage return and no line feed but as its first byte.
use Prim.Native.Nat.{ℕ, zero, suc, ◌+◌, ◌≤◌, ◌<◌}
use native.Mathlib.Omega.{arith}
use mathlib.Core.Path.{◌≡◌, refl, sym, ◌∙◌, ap}
use mathlib.Core.Bool.{Bool, true, false, ◌&&◌}
use mathlib.Core.Logic.{⊎_elim}
use mathlib.Core.List.Memᴰ
use mathlib.Core.List.{List, [], ◌∷◌, ◌++◌, Memᴰ}
use borrow.Author.Tests.{ltb-true}
use lib.Dec.{ltb}
use lib.ListN.{length, get_or, take, drop}
use lib.Seq.{length-take-le, get_or-drop}
use Rattle.base.specs.Byte.{carriage_return}
use Rattle.base.proofs.Choice.{if_yes, and_yes, both}
use Rattle.page.specs.Utf8.{Range, Row, holds, table, begins, sequence, Begins, Sequence}
use Rattle.page.specs.Text.{NoReturn}
use Rattle.page.proofs.Rows.{range_low, by_row, found, row_nonempty}
use Rattle.page.proofs.Reading.{row_length}

-- bytes after the sequence, or none, leave it what it is
pub begins_append : (row : Row) (s t : List ℕ) → begins row s ≡ true → begins row (s ++ t) ≡ true
unfolding begins
begins_append [] s t e = refl
begins_append (r ∷ row) [] t e = cc
begins_append (r ∷ row) (b ∷ s) t e =
    let p = both (holds r b) (begins row s) e in
    and_yes (holds r b) (begins row (s ++ t)) p.0 (begins_append row s t p.1)

begins_take : (row : Row) (t : List ℕ) → begins row t ≡ true → begins row (take (length row) t) ≡ true
unfolding begins
begins_take [] t e = refl
begins_take (r ∷ row) [] e = cc
begins_take (r ∷ row) (b ∷ t) e =
    let p = both (holds r b) (begins row t) e in
    and_yes (holds r b) (begins row (take (length row) t)) p.0 (begins_take row t p.1)

-- the row with which a text begins says how long its first sequence is
pub by_its_row : (row : Row) (t : List ℕ) → Memᴰ row table → begins row t ≡ true → sequence t ≡ length row
unfolding begins
by_its_row [] t m e = absurd (row_nonempty m)
by_its_row (r ∷ row) [] m e = cc
by_its_row (r ∷ row) (b ∷ t) m e =
    let p = both (holds r b) (begins row t) e in
    by_row r row b t m p.0 ∙ sym (if_yes ℕ (begins row t) (length (r ∷ row)) (length (r ∷ row)) 0 p.1 refl)

ill_number : (t : List ℕ) (n : ℕ) → sequence t ≡ n → (Begins t → ⊥) → sequence t ≡ 0
ill_number t zero e h = e
ill_number t (suc n) e h =
    let f = found table t n e in
    absurd (h (record { row = f.0; listed = f.1; begun = f.2 }))

pub ill : (t : List ℕ) → (Begins t → ⊥) → sequence t ≡ 0
ill t h = ill_number t (sequence t) refl h

row_of_none : (row : Row) → Memᴰ row table → length row ≡ 0 → ⊥
row_of_none [] m e = row_nonempty m
row_of_none (r ∷ row) m e = omega arith

pub ill_back : (t : List ℕ) → sequence t ≡ 0 → Begins t → ⊥
ill_back t e b = row_of_none b.row b.listed (sym (by_its_row b.row t b.listed b.begun) ∙ e)

-- the first sequence of a text
pub first_sequence : (row : Row) (t : List ℕ) (n : ℕ) → Memᴰ row table → begins row t ≡ true → length row ≡ n → Sequence (take n t)
first_sequence row t n m e l =
    let fits = row_length row t e in
    let q : n ≤ length t = omega arith in
    record {
      row = row;
      listed = m;
      begun = ap (λ (k : ℕ). begins row (take k t)) (sym l) ∙ begins_take row t e;
      whole = length-take-le n t q ∙ sym l;
    }

-- every range but a row's first lies above the carriage return
high : Row → Bool
high [] = true
high (r ∷ row) = ltb carriage_return r.0 && high row

high_tails : List Row → Bool
high_tails [] = true
high_tails ([] ∷ rows) = false
high_tails ((r ∷ row) ∷ rows) = high row && high_tails rows

table_high : high_tails table ≡ true
unfolding high_tails high table
table_high = refl

high_tail : (rows : List Row) (r : Range) (row : Row) → high_tails rows ≡ true → Memᴰ (r ∷ row) rows → high row ≡ true
unfolding high_tails
high_tail [] r row e m = absurd (Memᴰ.not-nil m)
high_tail ([] ∷ rows) r row e m = cc
high_tail ((q ∷ other) ∷ rows) r row e m =
    let p = both (high other) (high_tails rows) e in
    ⊎_elim (λ (s : ◌≡◌ {A = Row} (r ∷ row) (q ∷ other)). let t : row ≡ other = cc in ap high t ∙ p.0)
    (λ s. high_tail rows r row p.1 s) (Memᴰ.cases_cons m)

high_plain : (row : Row) (t : List ℕ) → high row ≡ true → begins row t ≡ true → NoReturn (take (length row) t)
unfolding high begins
high_plain [] t h e m = Memᴰ.not-nil m
high_plain (r ∷ row) [] h e m = let z : ◌≡◌ {A = ℕ} 0 1 = cc in omega arith
high_plain (r ∷ row) (b ∷ t) h e m =
    let p = both (holds r b) (begins row t) e in
    let low = range_low r b p.0 in
    let q = both (ltb carriage_return r.0) (high row) h in
    let above = ltb-true carriage_return r.0 q.0 in
    ⊎_elim (λ s. omega arith) (λ s. high_plain row t q.1 p.1 s) (Memᴰ.cases_cons m)

-- so a sequence whose first byte is none holds none
pub plain_sequence : (row : Row) (b : ℕ) (t : List ℕ) → Memᴰ row table → begins row (b ∷ t) ≡ true → (b ≡ carriage_return → ⊥) →
    NoReturn (take (length row) (b ∷ t))
unfolding begins
plain_sequence [] b t l e h m = row_nonempty l
plain_sequence (r ∷ row) b t l e h m =
    let p = both (holds r b) (begins row t) e in
    ⊎_elim (λ s. h (sym s)) (λ s. high_plain row t (high_tail table r row table_high l) p.1 s) (Memᴰ.cases_cons m)

-- every byte of a sequence that begins with one above the carriage return lies above it
high_byte : (row : Row) (t : List ℕ) (i : ℕ) → high row ≡ true → begins row t ≡ true → i < length row → carriage_return < get_or t i 0
unfolding high begins
high_byte [] t i h e l = absurd (omega arith)
high_byte (r ∷ row) [] i h e l = let z : ◌≡◌ {A = ℕ} 0 1 = cc in absurd (omega arith)
high_byte (r ∷ row) (b ∷ t) zero h e l =
    let low = range_low r b (both (holds r b) (begins row t) e).0 in
    let above = ltb-true carriage_return r.0 (both (ltb carriage_return r.0) (high row) h).0 in
    omega arith
high_byte (r ∷ row) (b ∷ t) (suc i) h e l =
    high_byte row t i (both (ltb carriage_return r.0) (high row) h).1 (both (holds r b) (begins row t) e).1 (omega arith)

row_high : (row : Row) (t : List ℕ) (i : ℕ) → Memᴰ row table → begins row t ≡ true → carriage_return < get_or t 0 0 → i < length row → carriage_return < get_or t i 0
unfolding begins
row_high [] t i m e b l = absurd (row_nonempty m)
row_high (r ∷ row) [] i m e b l = let z : ◌≡◌ {A = ℕ} 0 1 = cc in absurd (omega arith)
row_high (r ∷ row) (x ∷ t) zero m e b l = b
row_high (r ∷ row) (x ∷ t) (suc i) m e b l =
    high_byte row t i (high_tail table r row table_high m) (both (holds r x) (begins row t) e).1 (omega arith)

pub sequence_high : (page : List ℕ) (p : ℕ) → p < length page → (n : ℕ) → 0x80 ≤ get_or page p 0 → n ≡ sequence (drop p page) → (i : ℕ) → i < n → carriage_return < get_or page (p + i) 0
sequence_high page p here zero a e i l = absurd (omega arith)
sequence_high page p here (suc n) a e i l =
    let f = found table (drop p page) n (sym e) in
    let z : p + 0 ≡ p = omega arith in
    let first : get_or (drop p page) 0 0 ≡ get_or page p 0 = get_or-drop p page 0 0 ∙ ap (λ (k : ℕ). get_or page k 0) z in
    let q = row_high f.0 (drop p page) i f.1 f.2 (omega (arith, first)) (omega (arith, f.3)) in
    omega (arith, q, get_or-drop p page i 0)
