-- Laws of tables: what a `match` on a number knows in its last arm, `_`, the number being no key of the table; and what holds of what is
-- found, if it holds of every row.
use Prim.Native.Nat.{ℕ}
use mathlib.Core.Path.{◌≡◌, refl}
use mathlib.Core.List.{List, [], ◌∷◌}
use lib.Dec.{eqb}
use mathlib.Core.Bool.{false}
use borrow.Author.Tests.{ne_eqb, eqb-true}
use Rattle.base.specs.If.{among}
use Rattle.base.specs.Table.{find}
use Rattle.base.proofs.Choice.{if_no, if_is}

module _ {A : Type 0} where
  -- n is none of the keys, and T, as a `match` with these keys says it
  abbrev pub None : Type 0 → ℕ → List (ℕ × A) → Type 0
  None T n [] = T
  None T n (e ∷ es) = None (T × (n ≡ e.0 → ⊥)) n es

  find_none : (T : Type 0) (n : ℕ) (es : List (ℕ × A)) (d : A) → None T n es → T × (d ≡ find n es d)
  unfolding find
  find_none T n [] d r = (r, refl)
  find_none T n (e ∷ es) d r =
      let h = find_none (T × (n ≡ e.0 → ⊥)) n es d r in
      (h.0.0, if_no A (eqb n e.0) d e.1 (find n es d) (ne_eqb n e.0 h.0.1) h.1)

  pub not_found : (n : ℕ) (es : List (ℕ × A)) (d : A) → None (Unit {0}) n es → d ≡ find n es d
  not_found n es d r = (find_none (Unit {0}) n es d r).1

-- ---- every row

-- one row's proof, and those of the rows below it
infixr 5 ◌&◌
abbrev pub ◌&◌ : {A B : Type 0} → A → B → A × B
a & b = (a, b)

module _ {A : Type 0} where
  abbrev pub keys : List (ℕ × A) → List ℕ
  keys [] = []
  keys (e ∷ es) = e.0 ∷ keys es

  -- the property of each row whose key is n
  abbrev pub Each : (A → Type 0) → ℕ → List (ℕ × A) → Type 0
  Each P n [] = Unit {0}
  Each P n (e ∷ es) = (n ≡ e.0 → P e.1) × Each P n es

  -- it holds of what is found, if it holds of what is given where no row has the number
  pub found_or : (P : A → Type 0) (n : ℕ) (es : List (ℕ × A)) (d : A) → Each P n es → (among (keys es) n ≡ false → P d) → P (find n es d)
  unfolding find among
  found_or P n [] d h p = p refl
  found_or P n (e ∷ es) d h p =
      if_is A P (eqb n e.0) e.1 (find n es d) (λ t. h.0 (eqb-true n e.0 t)) (λ t. found_or P n es d h.1 (λ a. p (rw t a)))

  pub found : (P : A → Type 0) (n : ℕ) (es : List (ℕ × A)) (d : A) → Each P n es → P d → P (find n es d)
  found P n es d h p = found_or P n es d h (λ f. p)
