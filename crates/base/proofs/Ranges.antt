-- Laws of ranges of numbers; and a test that holds of every number of a range, computed.
use Prim.Native.Nat.{ℕ, zero, suc, ◌+◌, ◌≤◌, ◌<◌}
use native.Mathlib.Omega.{arith}
use native.Mathlib.Decide.{ℕ_discrete}
use mathlib.Core.Path.{◌≡◌, ap, ◌∙◌}
use mathlib.Core.Logic.{by_cases}
use mathlib.Core.Bool.{Bool, true, false, ◌&&◌}
use lib.Dec.{leb}
use borrow.Author.Tests.{le-leb, lt-leb, leb-true}
use Rattle.base.specs.Range.{within}
use Rattle.base.proofs.Choice.{and_no, and_no', both}

pub is_within : (low high x : ℕ) → low ≤ x → x ≤ high → within low high x ≡ true
unfolding within
is_within low high x p q = rw (le-leb low x p, le-leb x high q)

pub below : (low high x : ℕ) → x < low → within low high x ≡ false
unfolding within
below low high x p = and_no (leb low x) (leb x high) (lt-leb low x p)

pub above : (low high x : ℕ) → high < x → within low high x ≡ false
unfolding within
above low high x p = and_no' (leb low x) (leb x high) (lt-leb x high p)

pub within_is : (low high x : ℕ) → within low high x ≡ true → (low ≤ x) × (x ≤ high)
unfolding within
within_is low high x e =
    let t = both (leb low x) (leb x high) e in
    (leb-true low x t.0, leb-true x high t.1)

-- a `match` on ranges, for a function's attribute
pub ruleset ranges = (is_within, below, above)

-- ---- every number of a range

abbrev pub all : (ℕ → Bool) → ℕ → ℕ → Bool
all f low zero = true
all f low (suc n) = f low && all f (low + 1) n

pub all_hold : (f : ℕ → Bool) (n low x : ℕ) → all f low n ≡ true → low ≤ x → x < low + n → f x ≡ true
all_hold f zero low x a h g = absurd (omega arith)
all_hold f (suc n) low x a h g =
    let b = both (f low) (all f (low + 1) n) a in
    by_cases (ℕ_discrete x low) (λ (e : x ≡ low). ap f e ∙ b.0) (λ ne. all_hold f n (low + 1) x b.1 (omega (arith, ne)) (omega arith))
