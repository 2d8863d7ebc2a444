-- The reading of a text goes by whole sequences: from a place it stops there, or it goes on where the sequence ends.
use Prim.Native.Nat.{ℕ, zero, suc, ◌+◌, ◌-◌, ◌≤◌, ◌<◌, zero-le, suc-le-suc}
use native.Mathlib.Omega.{arith}
use mathlib.Core.Path.{◌≡◌, refl, sym, ◌∙◌, ap}
use mathlib.Core.Bool.{Bool, true, ◌||◌}
use mathlib.Core.List.{List, [], ◌∷◌}
use borrow.Author.Tests.{eq-eqb, ne_eqb}
use lib.Dec.{eqb}
use lib.ListN.{length, get_or, drop, length-drop}
use lib.Seq.{drop-drop}
use Rattle.base.specs.Byte.{carriage_return}
use Rattle.base.proofs.Choice.{if_yes, if_no, or_yes, or_yes', or_no, both}
use Rattle.page.specs.Utf8.{Row, holds, table, begins, sequence}
use Rattle.page.specs.Text.{Reading, fault, read_from}
use Rattle.page.proofs.Rows.{found}
use Rattle.page.proofs.Places.{from_place}

-- bytes that are skipped
skips : (k at : ℕ) (t : List ℕ) → read_from k at t ≡ read_from 0 (at + k) (drop k t)
unfolding read_from
skips zero at t = ap (λ (n : ℕ). read_from 0 n t) (omega arith)
skips (suc k) at [] = refl
skips (suc k) at (b ∷ t) = skips k (at + 1) t ∙ ap (λ (n : ℕ). read_from 0 n (drop k t)) (omega arith)

-- the test with which the reading stops
abbrev pub stops_at : List ℕ → ℕ → Bool
stops_at t b = eqb b carriage_return || eqb (sequence t) 0

pub passes : (b : ℕ) (t : List ℕ) (at n : ℕ) → (b ≡ carriage_return → ⊥) → sequence (b ∷ t) ≡ suc n →
    read_from 0 at (b ∷ t) ≡ read_from 0 (at + suc n) (drop n t)
unfolding read_from
passes b t at n h e =
    let z : sequence (b ∷ t) ≡ 0 → ⊥ = λ q. omega arith in
    sym (if_no Reading (stops_at (b ∷ t) b) (read_from (sequence (b ∷ t) - 1) (at + 1) t) (fault at)
    (read_from (sequence (b ∷ t) - 1) (at + 1) t)
    (or_no (eqb b carriage_return) (eqb (sequence (b ∷ t)) 0) (ne_eqb b carriage_return h) (ne_eqb (sequence (b ∷ t)) 0 z)) refl)
    ∙ ap (λ (k : ℕ). read_from k (at + 1) t) (omega arith)
    ∙ skips n (at + 1) t
    ∙ ap (λ (k : ℕ). read_from 0 k (drop n t)) (omega arith)

pub halts : (b : ℕ) (t : List ℕ) (at : ℕ) → stops_at (b ∷ t) b ≡ true → fault at ≡ read_from 0 at (b ∷ t)
unfolding read_from
halts b t at e = if_yes Reading (stops_at (b ∷ t) b) (fault at) (fault at) (read_from (sequence (b ∷ t) - 1) (at + 1) t) e refl

-- a sequence lies whole in the text
pub row_length : (row : Row) (t : List ℕ) → begins row t ≡ true → length row ≤ length t
unfolding begins
row_length [] t e = zero-le
row_length (r ∷ row) [] e = let z : ◌≡◌ {A = ℕ} 0 1 = cc in absurd (omega arith)
row_length (r ∷ row) (b ∷ t) e = suc-le-suc (row_length row t (both (holds r b) (begins row t) e).1)

pub sequence_length : (t : List ℕ) (n : ℕ) → sequence t ≡ n → n ≤ length t
sequence_length t zero e = zero-le
sequence_length t (suc n) e =
    let f = found table t n e in
    let l = row_length f.0 t f.2 in
    let q = f.3 in
    omega arith

-- the same at a place p of a page
module _ (page : List ℕ) (p : ℕ) (here : p < length page) where
  passes_suc : (n : ℕ) → (get_or page p 0 ≡ carriage_return → ⊥) → sequence (drop p page) ≡ suc n →
      read_from 0 p (drop p page) ≡ read_from 0 (p + suc n) (drop (p + suc n) page)
  passes_suc n h e =
      let f = from_place page p here in
      let q : p + 1 + n ≡ p + suc n = omega arith in
      ap (read_from 0 p) f
      ∙ passes (get_or page p 0) (drop (p + 1) page) p n h (ap sequence (sym f) ∙ e)
      ∙ ap (read_from 0 (p + suc n)) (drop-drop n (p + 1) page ∙ ap (λ (k : ℕ). drop k page) q)

  pub passes_at : (n : ℕ) → (n ≡ 0 → ⊥) → (get_or page p 0 ≡ carriage_return → ⊥) → n ≡ sequence (drop p page) →
      read_from 0 p (drop p page) ≡ read_from 0 (p + n) (drop (p + n) page)
  passes_at zero z h e = absurd (z refl)
  passes_at (suc n) z h e = passes_suc n h (sym e)

  pub next_place : (n : ℕ) → n ≡ sequence (drop p page) → p + n ≤ length page
  next_place n e = let l = sequence_length (drop p page) n (sym e) in omega (arith, length-drop p page)

  halts_if : stops_at (drop p page) (get_or page p 0) ≡ true → fault p ≡ read_from 0 p (drop p page)
  halts_if e =
      let f = from_place page p here in
      halts (get_or page p 0) (drop (p + 1) page) p (ap (λ (t : List ℕ). stops_at t (get_or page p 0)) (sym f) ∙ e)
      ∙ ap (read_from 0 p) (sym f)

  pub halts_return : get_or page p 0 ≡ carriage_return → fault p ≡ read_from 0 p (drop p page)
  halts_return e =
      halts_if (or_yes (eqb (get_or page p 0) carriage_return) (eqb (sequence (drop p page)) 0) (eq-eqb (get_or page p 0) carriage_return e))

  pub halts_ill : sequence (drop p page) ≡ 0 → fault p ≡ read_from 0 p (drop p page)
  halts_ill e =
      halts_if (or_yes' (eqb (get_or page p 0) carriage_return) (eqb (sequence (drop p page)) 0) (eq-eqb (sequence (drop p page)) 0 e))
