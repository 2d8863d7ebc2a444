-- How many spaces and tabs follow one another from a place of the page on: what a look-ahead from there will pass.
use Prim.Native.Nat.{ℕ, suc, ◌+◌, ◌-◌, ◌≤◌, ◌<◌}
use mathlib.Core.Path.{◌≡◌}
use mathlib.Core.Bool.{true, false}
use mathlib.Core.List.{List, [], ◌∷◌}
use native.Mathlib.Omega.{arith}
use native.Mathlib.Numerals.{add-one}
use lib.ListN.{length, drop, get_or, length-drop}
use lib.Seq.{drop-cons}
use lib.Dec.{ltb}
use borrow.Author.Tests.{ltb-true, ltb-false}
use Rattle.base.specs.If.{when◌then◌else◌}
use Rattle.base.proofs.Choice.{if_is, case}
use Rattle.base.specs.Page.{byte_at}
use Rattle.char_class.specs.Class.{is_space_or_tab}
use Rattle.body_places.proofs.Place.{byte_in}

-- at the head of a list
unfoldable pub heading : List ℕ → ℕ
heading [] = 0
heading (x ∷ xs) = when is_space_or_tab x then heading xs + 1 else 0

-- from a place of the page on
unfoldable pub blanks : List ℕ → ℕ → ℕ
blanks page at = heading (drop at page)

heading_fits : (l : List ℕ) → heading l ≤ length l
unfolding heading
heading_fits [] = omega arith
heading_fits (x ∷ xs) = if_is ℕ (λ (k : ℕ). k ≤ suc (length xs)) (is_space_or_tab x) _ _ (λ e. omega (arith, heading_fits xs)) (λ e. omega arith)

-- no more of them than the page has bytes from there on
pub blanks_fit : (page : List ℕ) (at : ℕ) → blanks page at ≤ length page - at
unfolding blanks
blanks_fit page at = omega (arith, heading_fits (drop at page), length-drop at page)

heading_more : (x : ℕ) (xs : List ℕ) → is_space_or_tab x ≡ true → heading (x ∷ xs) ≡ heading xs + 1
unfolding heading when◌then◌else◌
heading_more x xs h = rw h

heading_none : (x : ℕ) (xs : List ℕ) → is_space_or_tab x ≡ false → heading (x ∷ xs) ≡ 0
unfolding heading when◌then◌else◌
heading_none x xs h = rw h

-- the run from a place on is one longer than the run after it, or there is none
pub blanks_more : (page : List ℕ) (at : ℕ) → is_space_or_tab (byte_at page at) ≡ true → at < length page → blanks page at ≡ blanks page (at + 1) + 1
unfolding blanks
blanks_more page at h l = rw (drop-cons page at 0, add-one at) (heading_more (get_or page at 0) (drop (suc at) page) (rw (byte_in page at l) at h))

pub blanks_none : (page : List ℕ) (at : ℕ) → is_space_or_tab (byte_at page at) ≡ false → blanks page at ≡ 0
unfolding blanks
blanks_none page at h =
    case _ (ltb at (length page))
    (λ e. let l = ltb-true at (length page) e in
    rw (drop-cons page at 0) (heading_none (get_or page at 0) (drop (suc at) page) (rw (byte_in page at l) at h)))
    (λ e. omega (arith, blanks_fit page at, ltb-false at (length page) e))
