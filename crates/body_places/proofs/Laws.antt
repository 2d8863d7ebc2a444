-- How the cells of a body unfold, one place at a time.
use Prim.Native.Nat.{ℕ, zero, suc, ◌+◌, ◌-◌, ◌≤◌, ◌<◌}
use native.Mathlib.Omega.{arith}
use native.Mathlib.Numerals.{sub-one}
use mathlib.Core.Path.{◌≡◌, refl, sym, ap, ◌∙◌}
use mathlib.Core.Bool.{true, false}
use mathlib.Core.List.{List, [], ◌∷◌, ◌++◌}
use lib.ListN.{get_or}
use Rattle.base.specs.If.{when◌then◌else◌}
use Rattle.base.proofs.Choice.{if_is}
use Rattle.base.specs.Page.{byte_at}
use Rattle.body_places.specs.Body.{Cell, cell, cells_at, places_of, prefix_after, in_prefix, splits, spaces, split_tab, drift_at, cells_from, place_of, all_from}

-- ---- lists

first : (x d r : ℕ) (l : List ℕ) → r ≡ 0 → get_or (x ∷ l) r d ≡ x
first x d r l e = rw e

later : (x d r : ℕ) (l : List ℕ) → (r ≡ 0 → ⊥) → get_or (x ∷ l) r d ≡ get_or l (r - 1) d
later x d zero l h = absurd (h refl)
later x d (suc r) l h = rw sub-one

-- the spaces of a split tab stand one after the other
among_spaces : (n at r d : ℕ) (l : List Cell) → r < n → get_or (places_of (cells_at at (spaces n) ++ l)) r d ≡ at + r
among_spaces zero at r d l h = absurd (omega arith)
among_spaces (suc n) at zero d l h = omega arith
among_spaces (suc n) at (suc r) d l h = among_spaces n (at + 1) r d l (omega arith) ∙ omega arith

behind_spaces : (n at r d : ℕ) (l : List Cell) → n ≤ r → get_or (places_of (cells_at at (spaces n) ++ l)) r d ≡ get_or (places_of l) (r - n) d
behind_spaces zero at r d l h = ap (λ (k : ℕ). get_or (places_of l) k d) (omega arith)
behind_spaces (suc n) at zero d l h = absurd (omega arith)
behind_spaces (suc n) at (suc r) d l h = behind_spaces n (at + 1) r d l (omega arith) ∙ ap (λ (k : ℕ). get_or (places_of l) k d) (omega arith)

-- ---- an expression's body

module _ (page : List ℕ) (left drift at : ℕ) where
  abbrev b : ℕ
  b = byte_at page at

  pub skips : (n : ℕ) → 0 < n → in_prefix b left ≡ true → cells_from page left drift at n ≡ cells_from page (left - 1) drift (at + 1) (n - 1)
  unfolding cells_from when◌then◌else◌
  skips zero h e = absurd (omega arith)
  skips (suc n) h e = rw (e, sub-one (suc n))

  pub parts : (n : ℕ) → 0 < n → in_prefix b left ≡ false → splits b left ≡ true → cells_from page left drift at n ≡ cells_at at (split_tab left) ++ cells_from page 0 (4 - left - 1) (at + 1) (n - 1)
  unfolding cells_from when◌then◌else◌
  parts zero h e f = absurd (omega arith)
  parts (suc n) h e f = rw (e, f, sub-one (suc n))

  pub keeps : (n : ℕ) → 0 < n → in_prefix b left ≡ false → splits b left ≡ false → cells_from page left drift at n ≡ cell (at + drift_at b drift) b ∷ cells_from page (prefix_after b) (drift_at b drift) (at + 1) (n - 1)
  unfolding cells_from when◌then◌else◌
  keeps zero h e f = absurd (omega arith)
  keeps (suc n) h e f = rw (e, f, sub-one (suc n))

  pub over : (n : ℕ) → n ≡ 0 → cells_from page left drift at n ≡ []
  unfolding cells_from
  over n e = rw e

pub one_less : (to at : ℕ) → to - at - 1 ≡ to - (at + 1)
one_less to at = omega arith

-- no prefix has more than two columns, and no place drifts by more than three
pub prefix_small : (b : ℕ) → prefix_after b ≤ 2
prefix_small b = if_is ℕ (λ (k : ℕ). k ≤ 2) _ 2 0 (λ e. omega arith) (λ e. omega arith)

pub drift_small : (b drift : ℕ) → drift ≤ 3 → drift_at b drift ≤ 3
drift_small b drift h = if_is ℕ (λ (k : ℕ). k ≤ 3) _ 0 drift (λ e. omega arith) (λ e. h)

-- how the byte that is looked for is looked for: byte `more` of what is left of the body between `at` and `to`
module _ (page : List ℕ) (left drift at to more : ℕ) where
  abbrev Place : ℕ → ℕ → ℕ → ℕ → ℕ
  Place left drift at more = place_of (places_of (cells_from page left drift at (to - at))) more to

  pub skipped : at < to → in_prefix (byte_at page at) left ≡ true → Place (left - 1) drift (at + 1) more ≡ Place left drift at more
  skipped h e = rw (skips page left drift at (to - at) (omega arith) e, one_less to at)

  module _ (h : at < to) (e : in_prefix (byte_at page at) left ≡ false) where
    pub in_split : splits (byte_at page at) left ≡ true → (n : ℕ) → n ≡ 4 - left → more < n → at + more ≡ Place left drift at more
    in_split f n q m =
        rw (parts page left drift at (to - at) (omega arith) e f) (sym (among_spaces (4 - left) at more to (cells_from page 0 (4 - left - 1) (at + 1) (to - at - 1)) (omega (arith, q))))

    pub past_split : splits (byte_at page at) left ≡ true → (n : ℕ) → n ≡ 4 - left → n ≤ more → Place 0 (n - 1) (at + 1) (more - n) ≡ Place left drift at more
    past_split f n q m =
        rw (parts page left drift at (to - at) (omega arith) e f, one_less to at, q)
        (sym (behind_spaces (4 - left) at more to (cells_from page 0 (4 - left - 1) (at + 1) (to - (at + 1))) (omega (arith, q))))

    pub passed : splits (byte_at page at) left ≡ false → (more ≡ 0 → ⊥) → Place (prefix_after (byte_at page at)) (drift_at (byte_at page at) drift) (at + 1) (more - 1) ≡ Place left drift at more
    passed f m =
        let b = byte_at page at in
        sym (ap (λ (l : List Cell). get_or (places_of l) more to) (keeps page left drift at (to - at) (omega arith) e f)
        ∙ later (at + drift_at b drift) to more (places_of (cells_from page (prefix_after b) (drift_at b drift) (at + 1) (to - at - 1))) m
        ∙ ap (λ (k : ℕ). get_or (places_of (cells_from page (prefix_after b) (drift_at b drift) (at + 1) k)) (more - 1) to) (one_less to at))

    pub here : splits (byte_at page at) left ≡ false → more ≡ 0 → at + drift_at (byte_at page at) drift ≡ Place left drift at more
    here f m =
        rw (keeps page left drift at (to - at) (omega arith) e f)
        (sym (first (at + drift_at (byte_at page at) drift) to more (places_of (cells_from page (prefix_after (byte_at page at)) (drift_at (byte_at page at) drift) (at + 1) (to - at - 1))) m))

  pub nowhere : to ≤ at → to ≡ Place left drift at more
  nowhere h = rw (over page left drift at (to - at) (omega arith))

-- ---- an ESM block

pub counted : (n at r d : ℕ) → r < n → get_or (all_from at n) r d ≡ at + r
unfolding all_from
counted zero at r d h = absurd (omega arith)
counted (suc n) at zero d h = omega arith
counted (suc n) at (suc r) d h = counted n (at + 1) r d (omega arith) ∙ omega arith

pub past : (n at r d : ℕ) → n ≤ r → get_or (all_from at n) r d ≡ d
unfolding all_from
past zero at r d h = refl
past (suc n) at zero d h = absurd (omega arith)
past (suc n) at (suc r) d h = past n (at + 1) r d (omega arith)
