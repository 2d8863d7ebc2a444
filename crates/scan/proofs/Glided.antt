-- Bytes that a state passes with no event and no change but of place: k of them are k steps.
use Prim.Native.Nat.{ℕ, zero, suc, ◌+◌, ◌-◌, ◌≤◌, ◌<◌}
use native.Mathlib.Omega.{arith}
use native.Mathlib.Decide.{dec_le}
use mathlib.Core.Path.{◌≡◌, refl, sym, ap, ◌∙◌}
use mathlib.Core.Logic.{by_cases}
use mathlib.Core.Bool.{Bool, true, false, not, true≢false}
use mathlib.Core.List.{List}
use lib.ListN.{length, get_or}
use lib.Dec.{eqb, ltb}
use borrow.Author.Tests.{lt-ltb, le-ltb, eq-eqb}
use Rattle.base.specs.If.{when◌then◌else◌}
use Rattle.base.proofs.Choice.{if_yes, if_no}
use Rattle.base.specs.Byte.{end_of_page}
use Rattle.base.specs.Page.{byte_at}
use Rattle.base.specs.Decide.{eat}
use Rattle.base.specs.declared.Marks.TheVariants.{Nothing}
use Rattle.tokenizer.specs.Moved.{one_more, moved}
use Rattle.scan.specs.declared.Scan.{Scan}
use Rattle.scan.specs.Scan.{moved_scan}
use Rattle.scan.specs.Gliding.{Glides, GlidesTo, Glided, furthest_place, counted_on, passed_lines, passed_scan}
use Rattle.scan.proofs.Runs.{Going, glide, going_more}

-- ---- how k steps are counted

one_on : (n limit : ℕ) → n < limit → one_more n limit ≡ n + 1
one_on n limit h = sym (if_yes ℕ (ltb n limit) (n + 1) (n + 1) n (lt-ltb n limit h) refl)

one_full : (n limit : ℕ) → limit ≤ n → one_more n limit ≡ n
one_full n limit h = sym (if_no ℕ (ltb n limit) n (n + 1) n (le-ltb n limit h) refl)

module _ (steps bound : ℕ) where
  pub count_over : (k : ℕ) → bound ≤ steps → counted_on steps bound k ≡ steps
  unfolding counted_on
  count_over zero h = refl
  count_over (suc k) h = ap (λ (n : ℕ). one_more n bound) (count_over k h) ∙ one_full steps bound h

  pub count_on : (k : ℕ) → steps + k ≤ bound → counted_on steps bound k ≡ steps + k
  unfolding counted_on
  count_on zero h = omega arith
  count_on (suc k) h = ap (λ (n : ℕ). one_more n bound) (count_on k (omega arith)) ∙ one_on (steps + k) bound (omega arith) ∙ omega arith

  pub count_full : (k : ℕ) → steps < bound → bound - steps < k → counted_on steps bound k ≡ bound
  unfolding counted_on
  count_full zero h l = absurd (omega arith)
  count_full (suc k) h l =
      let full : counted_on steps bound k ≡ bound =
      by_cases (dec_le (steps + k) bound) (λ (e : steps + k ≤ bound). count_on k e ∙ omega arith) (λ e. count_full k h (omega (arith, e))) in
      ap (λ (n : ℕ). one_more n bound) full ∙ one_full bound bound (omega arith)

-- ---- how far a state glides

pub not_no : (b : Bool) → not b ≡ false → b ≡ true
not_no true e = refl
not_no false e = sym e

module _ (page : List ℕ) (name quote from limit : ℕ) where
  pub gliding_none : from ≤ limit → GlidesTo page name quote from limit from
  gliding_none h = record { onward = omega arith; within = h; each = λ i h l. absurd (omega arith) }

  pub gliding_more : (end : ℕ) (r : Bool) → GlidesTo page name quote from limit end → end < limit → limit ≤ length page → Glides name quote (get_or page end 0) r → r ≡ true → GlidesTo page name quote from limit (end + 1)
  unfolding byte_at
  gliding_more end r g h l d y =
      let here : get_or page end 0 ≡ byte_at page end = if_yes ℕ (ltb end (length page)) _ (get_or page end 0) 256 (lt-ltb end (length page) (omega arith)) refl in
      record {
        onward = omega (arith, g.onward);
        within = omega arith;
        each = λ i a b.
            by_cases (dec_le end i)
            (λ (e : end ≤ i). let z : end ≡ i = omega arith in rw (← z, ← here, ← y) d)
            (λ e. g.each i a (omega (arith, e)));
      }

-- so many steps reach no further than the page's end
module _ (n at left : ℕ) (h : at ≤ n) where
  pub furthest_on_page : furthest_place n at left ≤ n
  furthest_on_page = omega arith

  furthest_in_reach : furthest_place n at left ≤ at + left
  furthest_in_reach = omega arith

  pub furthest_onward : at < n → 0 < left → at < furthest_place n at left
  furthest_onward l k = omega arith

-- where there is a byte, the page has not ended
pub before_end : (page : List ℕ) (at : ℕ) → eqb (byte_at page at) end_of_page ≡ false → at < length page
unfolding byte_at
before_end page at f =
    by_cases (dec_le (length page) at)
    (λ (e : length page ≤ at).
    let z : byte_at page at ≡ end_of_page = sym (if_no ℕ (ltb at (length page)) end_of_page (get_or page at 0) end_of_page (le-ltb at (length page) e) refl) in
    absurd (true≢false (sym (eq-eqb (byte_at page at) end_of_page z) ∙ f)))
    (λ e. omega (arith, e))

-- the first byte, which is one of the page, and the rest
module _ (page : List ℕ) (name quote at left : ℕ) (within : at ≤ length page) (spare : 0 < left) (first : Glides name quote (byte_at page at) true) where
  pub glided : (end : ℕ) → GlidesTo page name quote (at + 1) (furthest_place (length page) at left) end → Glided page name quote at left (end - at)
  glided end rest =
      let l = rest.within in
      record {
        some = omega (arith, rest.onward);
        enough = omega (arith, l, furthest_in_reach (length page) at left within);
        on_page = omega (arith, rest.onward, l, furthest_on_page (length page) at left within);
        each = λ i k.
            by_cases (dec_le i 0)
            (λ (e : i ≤ 0). let z : at + i ≡ at = omega arith in rw z first)
            (λ e. rest.each (at + i) (omega (arith, e)) (omega (arith, k)));
      }

-- ---- k steps of a run

-- one more byte, after k of them
one_passed : (s : Scan) (k : ℕ) → s.tokenizer.at + k < s.tokenizer.job.length → passed_scan s (suc k) ≡ moved_scan (passed_scan s k) (eat s.tokenizer.state Nothing) 0 (passed_lines (passed_scan s k).lines 1)
unfolding counted_on moved when◌then◌else◌
one_passed s k h =
    let next : s.tokenizer.at + suc k ≡ s.tokenizer.at + k + 1 = omega arith in
    let same : s.used + 0 ≡ s.used = omega arith in
    rw (lt-ltb (s.tokenizer.at + k) s.tokenizer.job.length h, next, same)

-- the first of them, which leaves a tab that the scan was inside
first_passed : (s : Scan) → s.tokenizer.at < s.tokenizer.job.length → passed_scan s 1 ≡ moved_scan s (eat s.tokenizer.state Nothing) 0 (passed_lines s.lines 1)
unfolding counted_on moved when◌then◌else◌
first_passed s h =
    let same : s.used + 0 ≡ s.used = omega arith in
    rw (lt-ltb s.tokenizer.at s.tokenizer.job.length h, same)

module _ {page words₀ : List ℕ} {allowance : ℕ} {s₀ : Scan} {words : List ℕ} {s : Scan} {left : ℕ} (g : Going page words₀ allowance s₀ words s left) (running : 32 ≤ s.tokenizer.state) where
  many_on : (k : ℕ) → suc k ≤ left → s.tokenizer.at + suc k ≤ length page → ((i : ℕ) → i < suc k → Glides s.tokenizer.state s.tokenizer.regs.quote (byte_at page (s.tokenizer.at + i)) true)
      → Going page words₀ allowance s₀ words (passed_scan s (suc k)) (left - suc k)
  unfolding counted_on
  many_on zero h l each =
      let here : s.tokenizer.at + 0 ≡ s.tokenizer.at = omega arith in
      let e = glide page words s (byte_at page s.tokenizer.at) true (eat s.tokenizer.state Nothing) refl (rw here at (each 0 (omega arith))) refl refl (omega (arith, g.fit.long)) in
      going_more g (omega arith) running (first_passed s (omega (arith, g.fit.long)) ∙ e.0) e.1 refl
  many_on (suc k) h l each =
      let before = many_on k (omega arith) (omega arith) (λ i b. each i (omega (arith, b))) in
      let e = glide page words (passed_scan s (suc k)) (byte_at page (s.tokenizer.at + suc k)) true (eat s.tokenizer.state Nothing) refl (each (suc k) (omega arith)) refl refl (omega (arith, g.fit.long)) in
      let fewer : left - suc (suc k) ≡ left - suc k - 1 = omega arith in
      rw fewer (going_more before (omega arith) running (one_passed s (suc k) (omega (arith, g.fit.long)) ∙ e.0) e.1 refl)

  -- all that is glided over
  pub going_on : (k : ℕ) → Glided page s.tokenizer.state s.tokenizer.regs.quote s.tokenizer.at left k → Going page words₀ allowance s₀ words (passed_scan s k) (left - k)
  going_on zero d = absurd (omega (arith, d.some))
  going_on (suc k) d = many_on k d.enough d.on_page d.each
