-- Pairs of hex digits from a place on.
use Prim.Native.Nat.{ℕ, zero, suc, ◌+◌, ◌*◌, ◌/◌, ◌≤◌, ◌<◌}
use native.Mathlib.Omega.{arith}
use mathlib.Core.Path.{◌≡◌, refl}
use mathlib.Core.List.{List, [], ◌∷◌}
use lib.ListN.{length, get_or, drop, length-drop}
use Rattle.std.specs.Simd.{first_chunks}
use Rattle.text.specs.Hex.{digit, bytes_of}

-- the bytes that the digits say from pair i on: the one that this pair says, and those from the next pair on
pub bytes_at : (s : List ℕ) (n i : ℕ) → i < n → 2 * n ≤ length s →
    bytes_of (drop (2 * i) s) ≡ (digit (get_or (get_or (first_chunks 2 n s) i []) 0 0) * 16 + digit (get_or (get_or (first_chunks 2 n s) i []) 1 0)) ∷ bytes_of (drop (2 * (i + 1)) s)
unfolding bytes_of
bytes_at [] n i h k = absurd (omega arith)
bytes_at (a ∷ []) n i h k = absurd (omega arith)
bytes_at (a ∷ b ∷ t) zero i h k = absurd (omega arith)
bytes_at (a ∷ b ∷ t) (suc n) zero h k = refl
bytes_at (a ∷ b ∷ t) (suc n) (suc i) h k =
    let e : 2 * suc i ≡ suc (suc (2 * i)) = omega arith in
    let f : 2 * (suc i + 1) ≡ suc (suc (2 * (i + 1))) = omega arith in
    rw (e, f) (bytes_at t n i (omega arith) (omega arith))

short : (s : List ℕ) → length s < 2 → bytes_of s ≡ []
unfolding bytes_of
short [] h = refl
short (a ∷ []) h = refl
short (a ∷ b ∷ t) h = absurd (omega arith)

-- no pair is left
pub bytes_end : (s : List ℕ) (i : ℕ) → length s / 2 ≤ i → bytes_of (drop (2 * i) s) ≡ []
bytes_end s i h = short (drop (2 * i) s) (omega (arith, length-drop (2 * i) s))
