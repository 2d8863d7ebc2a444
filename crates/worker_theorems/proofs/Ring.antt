-- How far off a place is round the ring, and what the search for the next one finds.
use mathlib.Core.Path.{◌≡◌, refl, ap, sym, ◌∙◌}
use mathlib.Core.Logic.{◌≢◌, ◌⊎◌, inl, inr, ⊎_elim, by_cases}
use mathlib.Core.Bool.{Bool, true, false, cond, true≢false}
use native.Mathlib.Decide.{dec_le}
use native.Mathlib.Nat.{not-suc-le-zero}
use Prim.Native.Nat.{ℕ, zero, suc, ◌+◌, ◌-◌, ◌%◌, ◌≤◌, ◌<◌}
use native.Mathlib.Omega.{arith}
use Rattle.worker.specs.Ring.{after, seek}

-- how many places are passed over from j to i
abbrev pub gap : ℕ → ℕ → ℕ
gap j i = (i + 16 - j) % 16

gap_step : (j i : ℕ) → j < 16 → i < 16 → i ≢ j → gap j i ≡ gap (after j) i + 1
gap_step j i hj hi ne = omega arith

pub gap_small : (j i : ℕ) → gap j i < 16
gap_small j i = omega arith

pub after_small : (j : ℕ) → after j < 16
after_small j = omega arith

gap_zero : (j : ℕ) → j < 16 → gap j j ≡ 0
gap_zero j h = omega arith

-- g is where i is, counted from j
At : ℕ → ℕ → ℕ → Type 0
At j g i = (j + g ≡ i) ⊎ (j + g ≡ i + 16)

gap_at : (j i : ℕ) → j < 16 → i < 16 → At j (gap j i) i
unfolding At
gap_at j i hj hi = by_cases (dec_le j i) (λ h. inl (omega arith)) (λ h. inr (omega arith))

after_at : (k i d : ℕ) → k < 16 → i < 16 → d < 16 → At (after k) d i → At k (d + 1) i ⊎ (d + 1 ≡ 16)
unfolding At
after_at k i d hk hi hd = by_cases (dec_le 15 k) (λ h. ⊎_elim (λ (e : after k + d ≡ i). inl (inr (omega arith))) (λ (e : after k + d ≡ i + 16). inr (omega arith))) (λ h. ⊎_elim (λ (e : after k + d ≡ i). inl (inl (omega arith))) (λ (e : after k + d ≡ i + 16). inl (inr (omega arith))))

-- serving k, before i, brings i nearer
nearer_at : (j k i a b d : ℕ) → j < 16 → k < 16 → i < 16 → a < 16 → b < 16 → d < 16 → k ≢ i → a ≤ b → At j a k → At j b i → At k (d + 1) i → d + 1 ≤ b
unfolding At
nearer_at j k i a b d hj hk hi ha hb hd ne le p q r =
    ⊎_elim
    (λ (p₁ : j + a ≡ k).
    ⊎_elim
    (λ (q₁ : j + b ≡ i). ⊎_elim (λ (r₁ : k + (d + 1) ≡ i). omega arith) (λ (r₁ : k + (d + 1) ≡ i + 16). omega arith) r)
    (λ (q₁ : j + b ≡ i + 16). ⊎_elim (λ (r₁ : k + (d + 1) ≡ i). omega arith) (λ (r₁ : k + (d + 1) ≡ i + 16). omega arith) r)
    q)
    (λ (p₁ : j + a ≡ k + 16).
    ⊎_elim
    (λ (q₁ : j + b ≡ i). ⊎_elim (λ (r₁ : k + (d + 1) ≡ i). omega arith) (λ (r₁ : k + (d + 1) ≡ i + 16). omega arith) r)
    (λ (q₁ : j + b ≡ i + 16). ⊎_elim (λ (r₁ : k + (d + 1) ≡ i). omega arith) (λ (r₁ : k + (d + 1) ≡ i + 16). omega arith) r)
    q)
    p

pub gap_full : (k i : ℕ) → k < 16 → i < 16 → gap (after k) i + 1 ≡ 16 → k ≡ i
gap_full k i hk hi e = omega arith

pub gap_nearer : (j k i : ℕ) → j < 16 → k < 16 → i < 16 → k ≢ i → gap j k ≤ gap j i → gap (after k) i + 1 ≤ gap j i
gap_nearer j k i hj hk hi ne le =
    ⊎_elim
    (λ r. nearer_at j k i (gap j k) (gap j i) (gap (after k) i) hj hk hi (gap_small j k) (gap_small j i) (gap_small (after k) i) ne le (gap_at j k hj hk) (gap_at j i hj hi) r)
    (λ e. absurd (ne (gap_full k i hk hi e)))
    (after_at k i (gap (after k) i) hk hi (gap_small (after k) i) (gap_at (after k) i (after_small k) hi))

-- what the search finds, where the test holds at a place i among the n places that it looks at
pub record Found (p : ℕ → Bool) (j i k : ℕ) : Type 0 where
  pub small : k < 16
  pub holds : p k ≡ true
  pub first : gap j k ≤ gap j i

pub seek_finds : (p : ℕ → Bool) (n j i : ℕ) → j < 16 → i < 16 → p i ≡ true → gap j i < n → Found p j i (seek p j n)
unfolding seek
seek_finds p zero j i hj hi t h = absurd (not-suc-le-zero h)
seek_finds p (suc n) j i hj hi t h = split (p j) refl (λ ne. seek_finds p n (after j) i (after_small j) hi t (near ne))
  where
    near : i ≢ j → gap (after j) i < n
    near ne = omega (arith, gap_step j i hj hi ne)

    split : (b : Bool) → p j ≡ b → (i ≢ j → Found p (after j) i (seek p (after j) n)) → Found p j i (cond b j (seek p (after j) n))
    split true e r = record { small = hj; holds = e; first = omega (arith, gap_zero j hj) }
    split false e r =
        let ne : i ≢ j = λ (q : i ≡ j). true≢false (sym t ∙ ap p q ∙ e) in
        let f : Found p (after j) i (seek p (after j) n) = r ne in
        let nk : seek p (after j) n ≢ j = λ (q : seek p (after j) n ≡ j). true≢false (sym f.holds ∙ ap p q ∙ e) in
        record { small = f.small; holds = f.holds; first = omega (arith, gap_step j i hj hi ne, gap_step j (seek p (after j) n) hj f.small nk, f.first) }

pub seek_holds : (p : ℕ → Bool) (n j : ℕ) → seek p j n < 16 → p (seek p j n) ≡ true
unfolding seek
seek_holds p zero j h = absurd (omega arith)
seek_holds p (suc n) j h = split (p j) refl h (λ r. seek_holds p n (after j) r)
  where
    split : (b : Bool) → p j ≡ b → cond b j (seek p (after j) n) < 16 → (seek p (after j) n < 16 → p (seek p (after j) n) ≡ true) → p (cond b j (seek p (after j) n)) ≡ true
    split true t h r = t
    split false t h r = r h
