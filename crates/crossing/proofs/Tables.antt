-- Laws of tests and tables over the numbers from one on: what a loop has done before it is at its end.
use Prim.Native.Nat.{ℕ, zero, suc, ◌+◌, ◌-◌, ◌≤◌, ◌<◌}
use native.Mathlib.Omega.{arith}
use native.Mathlib.Decide.{ℕ_discrete}
use mathlib.Core.Path.{◌≡◌, refl, sym, ap, ◌∙◌}
use mathlib.Core.Bool.{Bool, true, false}
use mathlib.Core.List.{List}
use mathlib.Core.Logic.{by_cases}
use lib.ListN.{length, get_or, set, length-set}
use lib.Seq.{ext_get_or, get_or-set_same, get_or-set_other}
use Rattle.crossing.specs.Workers.{each, tabled}

-- ---- tests

module _ (test : ℕ → Bool) (k : ℕ) where
  pub each_fails : (n : ℕ) → 0 < n → test k ≡ false → each test k n ≡ false
  unfolding each
  each_fails zero h e = absurd (omega arith)
  each_fails (suc n) h e = rw e

  pub each_goes_on : (n : ℕ) → 0 < n → test k ≡ true → each test k n ≡ each test (k + 1) (n - 1)
  unfolding each
  each_goes_on zero h e = absurd (omega arith)
  each_goes_on (suc n) h e = let p : n ≡ suc n - 1 = omega arith in rw e (ap (λ (m : ℕ). each test (k + 1) m) p)

  pub each_none : (n : ℕ) → n ≡ 0 → each test k n ≡ true
  unfolding each
  each_none n e = rw e

-- ---- tables

module _ {A : Type 0} (f : ℕ → A) where
  pub tabled_length : (k n : ℕ) → length (tabled f k n) ≡ n
  unfolding tabled
  tabled_length k zero = refl
  tabled_length k (suc n) = ap suc (tabled_length (k + 1) n)

  pub tabled_at : (d : A) (k n i : ℕ) → i < n → get_or (tabled f k n) i d ≡ f (k + i)
  unfolding tabled
  tabled_at d k zero i h = absurd (omega arith)
  tabled_at d k (suc n) zero h = ap f (omega arith)
  tabled_at d k (suc n) (suc i) h = tabled_at d (k + 1) n i (omega arith) ∙ ap f (omega arith)

-- the first k of n elements are those of the table
pub record Begun {A : Type 0} (f : ℕ → A) (d : A) (n k : ℕ) (xs : List A) : Type 0 where
  pub size : length xs ≡ n
  pub equal : (i : ℕ) → i < k → get_or xs i d ≡ f i

module _ {A : Type 0} (f : ℕ → A) (d : A) (n : ℕ) where
  pub begins : (xs : List A) → length xs ≡ n → Begun f d n 0 xs
  begins xs e = record { size = e; equal = λ i h. absurd (omega arith) }

  pub goes_on_lem : (k : ℕ) (xs : List A) (x : A) → k < n → x ≡ f k → Begun f d n k xs → Begun f d n (k + 1) (set xs k x)
  goes_on_lem k xs x h e b =
      record {
        size = length-set xs k x ∙ b.size;
        equal = λ i g.
            by_cases (ℕ_discrete i k)
            (λ (p : i ≡ k). ap (λ (j : ℕ). get_or (set xs k x) j d) p ∙ get_or-set_same xs k x d (omega (arith, b.size)) ∙ e ∙ ap f (sym p))
            (λ ne. get_or-set_other xs k i x d ne ∙ b.equal i (omega (arith, ne)));
      }

  pub ends : (k : ℕ) (xs : List A) → n ≤ k → Begun f d n k xs → xs ≡ tabled f 0 n
  ends k xs h b =
      ext_get_or d xs (tabled f 0 n) (b.size ∙ sym (tabled_length f 0 n))
      (λ i g. b.equal i (omega (arith, b.size)) ∙ ap f (omega arith) ∙ sym (tabled_at f d 0 n i (omega (arith, b.size))))
