-- Laws of choice. `search picks` walks down a chain of choices with the tests that the code has made on the way.
use Prim.Native.Nat.{ℕ}
use mathlib.Core.Path.{◌≡◌, refl, sym, ◌∙◌}
use mathlib.Core.Bool.{Bool, true, false, not, ◌&&◌, ◌||◌}
use mathlib.Core.List.{List, [], ◌∷◌}
use mathlib.Core.Logic.{⊎_elim, inl, inr}
use types.Run.{OneOf}
use lib.Dec.{eqb}
use Rattle.base.specs.If.{when◌then◌else◌, among}
use borrow.Author.Tests.{eq-eqb, ne_eqb, le-leb, lt-leb, le-ltb, lt-ltb}

pub if_yes : (A : Type 0) (b : Bool) (z x y : A) → b ≡ true → z ≡ x → z ≡ (when b then x else y)
unfolding when◌then◌else◌
if_yes A b z x y q e = rw q e

pub if_no : (A : Type 0) (b : Bool) (z x y : A) → b ≡ false → z ≡ y → z ≡ (when b then x else y)
unfolding when◌then◌else◌
if_no A b z x y q e = rw q e

-- what holds of both choices holds of the choice
pub if_is : (A : Type 0) (P : A → Type 0) (b : Bool) (x y : A) → (b ≡ true → P x) → (b ≡ false → P y) → P (when b then x else y)
unfolding when◌then◌else◌
if_is A P true x y f g = f refl
if_is A P false x y f g = g refl

-- a test holds or does not
pub case : (P : Type 0) (b : Bool) → (b ≡ true → P) → (b ≡ false → P) → P
case P true f g = f refl
case P false f g = g refl

pub and_yes : (a b : Bool) → a ≡ true → b ≡ true → (a && b) ≡ true
and_yes a b p q = rw (p, q)

pub and_no : (a b : Bool) → a ≡ false → (a && b) ≡ false
and_no a b p = rw p

pub and_no' : (a b : Bool) → b ≡ false → (a && b) ≡ false
and_no' true b q = q
and_no' false b q = refl

pub both : (a b : Bool) → (a && b) ≡ true → (a ≡ true) × (b ≡ true)
both true b e = (refl, e)
both false b e = (e, cc)

pub or_no : (a b : Bool) → a ≡ false → b ≡ false → (a || b) ≡ false
or_no a b p q = rw (p, q)

pub or_yes : (a b : Bool) → a ≡ true → (a || b) ≡ true
or_yes a b p = rw p

pub or_yes' : (a b : Bool) → b ≡ true → (a || b) ≡ true
or_yes' true b q = refl
or_yes' false b q = q

-- an `or` that holds, by its parts; and one that does not
pub or_cases : (P : Type 0) (a b : Bool) → (a || b) ≡ true → (a ≡ true → P) → (b ≡ true → P) → P
or_cases P true b e f g = f refl
or_cases P false b e f g = g e

pub or_left : (a b : Bool) → (a || b) ≡ false → a ≡ false
or_left true b e = e
or_left false b e = refl

pub or_right : (a b : Bool) → (a || b) ≡ false → b ≡ false
or_right true b e = cc
or_right false b e = e

pub not_yes : (b : Bool) → not b ≡ true → b ≡ false
not_yes true e = sym e
not_yes false e = refl

-- the last test of a chain, r, is the rest of an `or` or an `and`
pub or_else : (r a b : Bool) → a ≡ false → r ≡ b → r ≡ (a || b)
or_else r a b p q = rw p q

pub and_also : (r a b : Bool) → a ≡ true → r ≡ b → r ≡ (a && b)
and_also r a b p q = rw p q

-- the result r of a call is the test b, by the callee's promise
pub told : (r b t : Bool) → r ≡ b → r ≡ t → b ≡ t
told r b t p q = sym p ∙ q

-- the number is the key k, and so not j
pub keyed : (b k j : ℕ) → b ≡ k → eqb k j ≡ false → eqb b j ≡ false
keyed b k j p q = rw p q

pub one_of : (ks : List ℕ) (x : ℕ) → OneOf ks x → among ks x ≡ true
unfolding among
one_of [] x h = absurd h
one_of (k ∷ []) x h = or_yes (eqb x k) false (eq-eqb x k h)
one_of (k ∷ j ∷ ks) x h =
    ⊎_elim (λ e. or_yes (eqb x k) (among (j ∷ ks) x) (eq-eqb x k e)) (λ e. or_yes' (eqb x k) (among (j ∷ ks) x) (one_of (j ∷ ks) x e)) h

pub none_of : (ks : List ℕ) (x : ℕ) → (OneOf ks x → ⊥) → among ks x ≡ false
unfolding among
none_of [] x h = refl
none_of (k ∷ []) x h = or_no (eqb x k) false (ne_eqb x k h) refl
none_of (k ∷ j ∷ ks) x h = or_no (eqb x k) (among (j ∷ ks) x) (ne_eqb x k (λ e. h (inl e))) (none_of (j ∷ ks) x (λ e. h (inr e)))

pub ruleset picks = (if_yes, if_no, and_yes, and_no, and_no', or_yes, or_yes', or_no, or_else, and_also, eq-eqb, ne_eqb, le-leb, lt-leb, le-ltb, lt-ltb, told, keyed, one_of, none_of)
