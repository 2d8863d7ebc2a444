-- For the blocks of plain bytes that the pass over a page skips: a block is plain where the count of its plain bytes is the block's length,
-- and plain blocks that stand one behind the other are plain together.
use Prim.Native.Nat.{ℕ, zero, suc, ◌+◌, ◌-◌, ◌*◌, ◌/◌, ◌≤◌, ◌<◌}
use native.Mathlib.Omega.{arith}
use native.Mathlib.Decide.{dec_le}
use mathlib.Core.Path.{◌≡◌, refl, sym, ap, ◌∙◌}
use mathlib.Core.Bool.{Bool, true, false, cond}
use mathlib.Core.Logic.{by_cases}
use mathlib.Core.List.{List, [], ◌∷◌}
use lib.Dec.{eqb}
use lib.Seq.{drop-drop}
use lib.ListN.{length, get_or, take, drop, length-drop}
use borrow.Author.Tests.{eqb-true}
use Rattle.std.specs.List.{count_by}
use Rattle.std.specs.Simd.{first_chunks}
use Rattle.std.proofs.lemmas.List.{get_or-drop, get_or-take, length-take-le}
use Rattle.std.proofs.lemmas.List.Sums.{sum_by-cons, count_by-le-length}
use Rattle.page.specs.Plain.{is_plain, PlainTo}

-- where all of a block's bytes are counted, each is plain
counted_first : (b : ℕ) (t : List ℕ) (p : Bool) → is_plain b ≡ p → cond p 1 0 + count_by is_plain t ≡ suc (length t)
    → (count_by is_plain t ≡ length t → (k : ℕ) → k < length t → is_plain (get_or t k 0) ≡ true) → (k : ℕ) → k < suc (length t) → is_plain (get_or (b ∷ t) k 0) ≡ true
counted_first b t true q e more zero h = q
counted_first b t true q e more (suc k) h = more (omega arith) k (omega arith)
counted_first b t false q e more k h = absurd (omega (arith, e, count_by-le-length is_plain t))

all_counted : (t : List ℕ) → count_by is_plain t ≡ length t → (k : ℕ) → k < length t → is_plain (get_or t k 0) ≡ true
all_counted [] e k h = absurd (omega arith)
all_counted (b ∷ t) e k h = counted_first b t (is_plain b) refl (sym (sum_by-cons (λ (x : ℕ). cond (is_plain x) 1 0) b t) ∙ e) (λ f i l. all_counted t f i l) k h

-- ---- blocks

module _ (page : List ℕ) (from : ℕ) where
  pub plain_none : from ≤ length page → PlainTo page from from
  plain_none h = record { onward = omega arith; in_page = h; each = λ i a b. absurd (omega arith) }

  pub plain_more : (at end : ℕ) → PlainTo page from at → PlainTo page at end → PlainTo page from end
  plain_more at end h g =
      record {
        onward = omega (arith, h.onward, g.onward);
        in_page = g.in_page;
        each = λ i a b.
            by_cases (dec_le at i)
            (λ (e : at ≤ i). g.each i e b)
            (λ e. h.each i a (omega (arith, e)));
      }

-- ---- the page from a place on, block by block

block_at : (k : ℕ) (t : List ℕ) (i : ℕ) (d : List ℕ) → i < k → get_or (first_chunks 16 k t) i d ≡ take 16 (drop (16 * i) t)
block_at zero t i d h = absurd (omega arith)
block_at (suc k) t zero d h = refl
block_at (suc k) t (suc i) d h =
    let e : 16 + 16 * i ≡ 16 * suc i = omega arith in
    block_at k (drop 16 t) i d (omega arith) ∙ ap (take 16) (drop-drop (16 * i) 16 t ∙ ap (λ (n : ℕ). drop n t) e)

module _ (page : List ℕ) (from i at : ℕ) where
  -- i blocks are passed
  pub record Skips : Type 0 where
    pub place : at ≡ from + 16 * i
    pub plain : PlainTo page from at

pub skip_none : (page : List ℕ) (from : ℕ) → from ≤ length page → Skips page from 0 from
skip_none page from h = record { place = omega arith; plain = plain_none page from h }

module _ (page : List ℕ) (from i at : ℕ) (h : Skips page from i at) (t : List ℕ) (is : t ≡ drop from page)
    (blocks : List (List ℕ)) (cut : blocks ≡ first_chunks 16 (length t / 16) t) (many : length blocks ≡ length t / 16) (less : i < length blocks) where
  pub block_fits : at + 16 ≤ length page
  block_fits = omega (arith, h.place, h.plain.in_page, many, less, ap length is, length-drop from page)

  module _ (d : List ℕ) where
    abbrev block : List ℕ
    block = get_or blocks i d

    block_is : block ≡ take 16 (drop at page)
    block_is =
        let e : from + 16 * i ≡ at = omega (arith, h.place) in
        ap (λ (x : List (List ℕ)). get_or x i d) cut ∙ block_at (length t / 16) t i d (omega (arith, many, less)) ∙ ap (λ (x : List ℕ). take 16 (drop (16 * i) x)) is ∙ ap (take 16) (drop-drop (16 * i) from page ∙ ap (λ (n : ℕ). drop n page) e)

    pub skip_more : eqb (count_by is_plain block) 16 ≡ true → Skips page from (i + 1) (at + 16)
    skip_more e =
        let sixteen : length block ≡ 16 = ap length block_is ∙ length-take-le 16 (drop at page) (omega (arith, block_fits, length-drop at page)) in
        let here : PlainTo page at (at + 16) = record {
          onward = omega arith;
          in_page = block_fits;
          each = λ j a b.
              let z : at + (j - at) ≡ j = omega arith in
              let in_block : get_or page j 0 ≡ get_or block (j - at) 0 =
              ap (λ (n : ℕ). get_or page n 0) (sym z) ∙ sym (get_or-drop at page (j - at) 0) ∙ sym (get_or-take 16 (drop at page) (j - at) 0 (omega arith))
              ∙ ap (λ (x : List ℕ). get_or x (j - at) 0) (sym block_is) in
              ap is_plain in_block ∙ all_counted block (eqb-true _ _ e ∙ sym sixteen) (j - at) (omega (arith, sixteen));
        } in
        record { place = omega (arith, h.place); plain = plain_more page from at (at + 16) h.plain here }
