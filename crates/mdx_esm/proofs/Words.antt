-- How a part of the page is compared with a word.
use Prim.Native.Nat.{ℕ, zero, suc, ◌+◌, ◌-◌, ◌≤◌, ◌<◌}
use native.Mathlib.Omega.{arith}
use native.Mathlib.Decide.{ℕ_discrete}
use native.Mathlib.Nat.{add-zero}
use mathlib.Core.Path.{◌≡◌, refl, sym, ap, ◌∙◌}
use mathlib.Core.Logic.{◌⊎◌, by_cases}
use mathlib.Core.Bool.{Bool, true, false, ◌&&◌, ◌||◌}
use mathlib.Core.List.{List, [], ◌∷◌}
use lib.Dec.{eqb}
use lib.ListN.{length, get_or, take, drop, length-drop}
use lib.Seq.{drop-cons, length-take-le}
use borrow.Author.Tests.{ne_eqb, eqb-true, eqb-false, lt-ltb, le-ltb}
use Rattle.std.specs.Str.{bytes_eq}
use Rattle.base.specs.If.{when◌then◌else◌}
use Rattle.base.specs.Page.{byte_at}
use Rattle.base.specs.Byte.{end_of_page}
use Rattle.base.proofs.Choice.{and_no, and_no', both, case}
use Rattle.mdx_esm.specs.Word.{export, import, spells, is_word}

-- ---- a word in the page

byte_in : (page : List ℕ) (at : ℕ) → at < length page → byte_at page at ≡ get_or page at 0
unfolding byte_at when◌then◌else◌
byte_in page at h = rw (lt-ltb at (length page) h)

byte_past : (page : List ℕ) (at : ℕ) → length page ≤ at → byte_at page at ≡ end_of_page
unfolding byte_at when◌then◌else◌
byte_past page at h = rw (le-ltb at (length page) h)

part_spells : (page word : List ℕ) (start : ℕ) → start + length word ≤ length page → bytes_eq (take (length word) (drop start page)) word ≡ spells page word start
unfolding spells
part_spells page [] start h = refl
part_spells page (b ∷ word) start h =
    let e : start + 1 ≡ suc start = omega arith in
    rw (drop-cons page start 0 (omega arith), byte_in page start (omega arith), e)
    (ap (λ (t : Bool). eqb (get_or page start 0) b && t) (part_spells page word (suc start) (omega arith)))

-- a word that the page has is there byte for byte, and so before the page's end
spelled : (page word : List ℕ) (start k : ℕ) → spells page word start ≡ true → k < length word → byte_at page (start + k) ≡ get_or word k 0
unfolding spells
spelled page [] start k e h = absurd (omega arith)
spelled page (b ∷ word) start zero e h = rw add-zero (eqb-true _ _ (both _ _ e).0)
spelled page (b ∷ word) start (suc k) e h = ap (byte_at page) (omega arith) ∙ spelled page word (start + 1) k (both _ _ e).1 (omega arith)

-- a word of six letters that reaches past it
cut_off : (page word : List ℕ) (start : ℕ) → length page < start + 6 → 5 < length word → eqb end_of_page (get_or word 5 0) ≡ false → spells page word start ≡ false
cut_off page word start h l ne =
    case _ (spells page word start) (λ e. absurd (eqb-false _ _ ne (sym (byte_past page (start + 5) (omega arith)) ∙ spelled page word start 5 e l))) (λ e. e)

-- ---- a part of the page

unlike_long : (a b : List ℕ) → (length a ≡ length b → ⊥) → bytes_eq a b ≡ false
unlike_long [] [] h = absurd (h refl)
unlike_long [] (y ∷ b) h = refl
unlike_long (x ∷ a) [] h = refl
unlike_long (x ∷ a) (y ∷ b) h = and_no' (eqb x y) (bytes_eq a b) (unlike_long a b (λ e. h (omega arith)))

module _ (page : List ℕ) (start at : ℕ) where
  pub part_is_word : start ≤ at → at ≤ length page
      → is_word page start at ≡ (bytes_eq (take (at - start) (drop start page)) export || bytes_eq (take (at - start) (drop start page)) import)
  unfolding is_word
  part_is_word l h =
      by_cases (ℕ_discrete (at - start) 6)
      (λ (e : at - start ≡ 6). rw (e, part_spells page export start (omega arith), part_spells page import start (omega arith)))
      (λ ne.
      let n : length (take (at - start) (drop start page)) ≡ at - start = length-take-le (at - start) (drop start page) (omega (arith, length-drop start page)) in
      rw (ne_eqb (at - start) 6 ne, unlike_long _ export (λ e. ne (sym n ∙ e)), unlike_long _ import (λ e. ne (sym n ∙ e))))

  pub no_part : at < start ⊎ length page < at → is_word page start at ≡ false
  unfolding is_word
  no_part h =
      by_cases (ℕ_discrete (at - start) 6)
      (λ (e : at - start ≡ 6).
      let past : length page < start + 6 = omega (arith, h) in
      rw (e, cut_off page export start past (omega arith) refl, cut_off page import start past (omega arith) refl))
      (λ ne. and_no _ _ (ne_eqb (at - start) 6 ne))
