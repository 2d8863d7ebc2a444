-- The event buffer cut in shares of n words: one share replaced leaves the others, and the buffer's length.
use Prim.Native.Nat.{ℕ, suc, ◌+◌, ◌-◌, ◌*◌, ◌<◌, ◌≤◌}
use native.Mathlib.Omega.{arith}
use native.Mathlib.Nat.{mul-le-mul_right, suc-mul}
use native.Mathlib.Decide.{dec_lt}
use mathlib.Core.Path.{◌≡◌, sym, ap, ◌∙◌}
use mathlib.Core.Logic.{◌≢◌, by_cases}
use mathlib.Core.List.{List, ◌++◌}
use lib.ListN.{length, take, drop, length-append, length-drop, take-append-drop}
use lib.Seq.{take-append-le, drop-append-le, drop-append-add, take_at, drop_at, length-take-le}
use Rattle.events.specs.Share.{share_in, with_share}

front : (n d : ℕ) (a x : List ℕ) → d + n ≤ length a → take n (drop d (a ++ x)) ≡ take n (drop d a)
front n d a x h =
    ap (take n) (drop-append-le d a x (omega arith))
    ∙ take-append-le n (drop d a) x (omega (arith, length-drop d a))

back : (d : ℕ) (a p z : List ℕ) → length a + length p ≤ d → drop d (a ++ (p ++ z)) ≡ drop (d - (length a + length p)) z
back d a p z h =
    let m = d - (length a + length p) in
    let e : d ≡ length a + (length p + m) = omega arith in
    ap (λ (k : ℕ). drop k (a ++ (p ++ z))) e ∙ drop-append-add a (p ++ z) (length p + m) ∙ drop-append-add p z m

module _ (ev : List ℕ) (n k : ℕ) (part : List ℕ) (fits : k * n + n ≤ length ev) (long : length part ≡ n) where
  pub share_own : share_in n k (with_share ev n k part) ≡ part
  share_own =
      ap (take n) (drop_at (take (k * n) ev) (part ++ drop n (drop (k * n) ev)) (k * n) (length-take-le (k * n) ev (omega arith)))
      ∙ take_at part (drop n (drop (k * n) ev)) n long

  -- the list as it was, cut in the same three
  whole : ev ≡ take (k * n) ev ++ (take n (drop (k * n) ev) ++ drop n (drop (k * n) ev))
  whole = sym (ap (λ (l : List ℕ). take (k * n) ev ++ l) (take-append-drop n (drop (k * n) ev)) ∙ take-append-drop (k * n) ev)

  pub share_other : (j : ℕ) → j ≢ k → share_in n j (with_share ev n k part) ≡ share_in n j ev
  share_other j ne = by_cases (dec_lt j k) below above
    where
      la : length (take (k * n) ev) ≡ k * n
      la = length-take-le (k * n) ev (omega arith)

      lp : length (take n (drop (k * n) ev)) ≡ n
      lp = length-take-le n (drop (k * n) ev) (omega (arith, length-drop (k * n) ev))

      below : j < k → share_in n j (with_share ev n k part) ≡ share_in n j ev
      below h =
          let le : j * n + n ≤ k * n = omega (arith, mul-le-mul_right n h, suc-mul j n) in
          front n (j * n) (take (k * n) ev) (part ++ drop n (drop (k * n) ev)) (omega (arith, la))
          ∙ sym (ap (λ (l : List ℕ). take n (drop (j * n) l)) whole
          ∙ front n (j * n) (take (k * n) ev) (take n (drop (k * n) ev) ++ drop n (drop (k * n) ev)) (omega (arith, la)))

      above : (j < k → ⊥) → share_in n j (with_share ev n k part) ≡ share_in n j ev
      above h =
          let gt : suc k ≤ j = omega (arith, h, ne) in
          let le : k * n + n ≤ j * n = omega (arith, mul-le-mul_right n gt, suc-mul k n) in
          let z = drop n (drop (k * n) ev) in
          ap (take n)
          (back (j * n) (take (k * n) ev) part z (omega (arith, la, long))
          ∙ ap (λ (m : ℕ). drop (j * n - m) z) (omega (arith, la, lp, long))
          ∙ sym (ap (drop (j * n)) whole ∙ back (j * n) (take (k * n) ev) (take n (drop (k * n) ev)) z (omega (arith, la, lp))))

  pub length_with_share : length (with_share ev n k part) ≡ length ev
  length_with_share =
      omega (
        arith,
        length-append (take (k * n) ev) (part ++ drop n (drop (k * n) ev)),
        length-append part (drop n (drop (k * n) ev)),
        length-take-le (k * n) ev (omega arith),
        length-drop n (drop (k * n) ev),
        length-drop (k * n) ev,
      )
