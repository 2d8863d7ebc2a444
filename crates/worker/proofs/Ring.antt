-- The laws by which a loop follows the search round the ring.
use mathlib.Core.Path.{◌≡◌, sym, ap, ◌∙◌}
use mathlib.Core.Logic.{by_cases}
use mathlib.Core.Bool.{Bool, true, false, not}
use native.Mathlib.Decide.{dec_le}
use native.Mathlib.Numerals.{sub-one}
use native.Mathlib.Omega.{arith}
use Prim.Native.Nat.{ℕ, zero, suc, ◌+◌, ◌-◌, ◌%◌, ◌≤◌, ◌<◌}
use mathlib.Core.List.{List}
use lib.ListN.{length}
use lib.Dec.{ltb}
use borrow.Author.Tests.{lt-ltb, le-ltb}
use Rattle.base.proofs.Choice.{case}
use Rattle.std.specs.Prelude.{Option, Some, None, position}
use Rattle.std.specs.List.{position_or_len}
use Rattle.std.proofs.lemmas.List.Sums.{fails_before_first, passes_at_first, prefix_len-le-length}
use Rattle.base.specs.If.{when◌then◌else◌}
use Rattle.worker.specs.declared.Place.{Place}
use Rattle.worker.specs.Ring.{places, after, seek}
use Rattle.worker.specs.Place.{beyond, place_in, lowest_in}
use Rattle.worker.specs.Inner.{sought}

pub seek_here : (p : ℕ → Bool) (j n : ℕ) → 0 < n → p j ≡ true → seek p j n ≡ j
unfolding seek
seek_here p j zero h e = absurd (omega arith)
seek_here p j (suc n) h e = rw e

pub seek_on : (p : ℕ → Bool) (j n : ℕ) → 0 < n → p j ≡ false → seek p j n ≡ seek p (after j) (n - 1)
unfolding seek
seek_on p j zero h e = absurd (omega arith)
seek_on p j (suc n) h e = rw (e, sub-one)

pub seek_none : (p : ℕ → Bool) (j n : ℕ) → n ≡ 0 → seek p j n ≡ places
unfolding seek
seek_none p j n e = rw e

-- a loop from 0 to the last place never comes round
pub seek_up : (p : ℕ → Bool) (k : ℕ) → k < places → p k ≡ false → seek p k (places - k) ≡ seek p (k + 1) (places - (k + 1))
seek_up p k h e =
    seek_on p k (places - k) (omega arith) e
    ∙ by_cases (dec_le 15 k)
    (λ (g : 15 ≤ k). seek_none p (after k) (places - k - 1) (omega arith) ∙ sym (seek_none p (k + 1) (places - (k + 1)) (omega arith)))
    (λ (g : 15 ≤ k → ⊥).
    let a : after k ≡ k + 1 = omega arith in
    let n : places - k - 1 ≡ places - (k + 1) = omega arith in
    rw (a, n))

-- so what it finds is the first of a list that passes
seek_to : (p : ℕ → Bool) (i : ℕ) → i ≤ places → ((k : ℕ) → k < i → p k ≡ false) → (i < places → p i ≡ true) → (n k : ℕ) → k + n ≡ i → seek p k (places - k) ≡ i
seek_to p i h below at zero k e =
    by_cases (dec_le 16 i)
    (λ (g : 16 ≤ i). seek_none p k (places - k) (omega arith) ∙ omega arith)
    (λ (g : 16 ≤ i → ⊥).
    let f : k ≡ i = omega arith in
    seek_here p k (places - k) (omega arith) (ap p f ∙ at (omega arith)) ∙ f)
seek_to p i h below at (suc n) k e = seek_up p k (omega arith) (below k (omega arith)) ∙ seek_to p i h below at n (k + 1) (omega arith)

-- the lowest free place, as the code seeks it
abbrev pub free_in : List Place → Option ℕ
free_in ps = position (λ (p : Place). not p.taken) ps

first_is : (ps : List Place) → length ps ≡ places → free_in ps ≡ sought (lowest_in ps)
unfolding when◌then◌else◌
first_is ps size =
    let test : Place → Bool = λ p. not p.taken in
    let i = position_or_len test ps in
    let e : lowest_in ps ≡ i =
    seek_to (λ k. test (place_in ps k)) i (omega (arith, size, prefix_len-le-length (λ (p : Place). not (test p)) ps)) (λ k h. fails_before_first test ps k beyond h) (λ h. passes_at_first test ps beyond (omega (arith, size))) i 0 (omega arith) in
    rw (e, size) (case _ (ltb i places) (λ y. rw y) (λ y. rw y))

-- ---- what a search tells

module _ (n : ℕ) where
  pub sought_one : (k : ℕ) → n ≡ k → k < places → Some k ≡ sought n
  unfolding when◌then◌else◌
  sought_one k e h = let y = lt-ltb n 16 (omega arith) in rw (y, e)

  pub sought_none : n ≡ places → None ≡ sought n
  unfolding when◌then◌else◌
  sought_none e = rw e

  pub none_sought : sought n ≡ None → places ≤ n
  unfolding when◌then◌else◌
  none_sought e =
      by_cases (dec_le 16 n) (λ (g : 16 ≤ n). g)
      (λ (g : 16 ≤ n → ⊥). let f : Some n ≡ None = rw (lt-ltb n 16 (omega arith)) at e in absurd (cc f))

  pub one_sought : (k : ℕ) → sought n ≡ Some k → (n ≡ k) × (k < places)
  unfolding when◌then◌else◌
  one_sought k e =
      by_cases (dec_le 16 n)
      (λ (g : 16 ≤ n). let f : None ≡ Some k = rw (le-ltb n 16 g) at e in absurd (cc f))
      (λ (g : 16 ≤ n → ⊥).
      let f : Some n ≡ Some k = rw (lt-ltb n 16 (omega arith)) at e in
      let q : n ≡ k = cc f in
      (q, omega arith))

module _ (ps : List Place) (size : length ps ≡ places) where
  pub none_free : free_in ps ≡ None → places ≤ lowest_in ps
  none_free e = none_sought (lowest_in ps) (sym (first_is ps size) ∙ e)

  pub one_free : (k : ℕ) → free_in ps ≡ Some k → (lowest_in ps ≡ k) × (k < places)
  one_free k e = one_sought (lowest_in ps) k (sym (first_is ps size) ∙ e)

-- ---- a search up to an end, round the ring

pub seek_round : (p : ℕ → Bool) (next end : ℕ) → next < end → p (next % 16) ≡ false → seek p (next % 16) (end - next) ≡ seek p ((next + 1) % 16) (end - (next + 1))
seek_round p next end h e =
    let a : after (next % 16) ≡ (next + 1) % 16 = omega arith in
    let n : end - next - 1 ≡ end - (next + 1) = omega arith in
    seek_on p (next % 16) (end - next) (omega arith) e ∙ rw (a, n)
