-- Hex digits put two by two; and the ways in which a field of bytes is put.
use Prim.Native.Nat.{ℕ, suc, ◌+◌, ◌-◌, ◌*◌, ◌/◌, ◌%◌, ◌≤◌, ◌<◌}
use native.Mathlib.Numerals.{add-one}
use native.Mathlib.Omega.{arith}
use mathlib.Core.Path.{◌≡◌, refl, ap, ◌∙◌}
use mathlib.Core.List.{List, [], ◌∷◌}
use lib.ListN.{length, drop, get_or, set, drop_of_length-le}
use lib.Seq.{sets, drop-cons}
use Rattle.base.specs.Byte.{hyphen}
use Rattle.report.specs.Hex.{digit_of, hex_of, field_of}
use Rattle.report.specs.Put.{outcome, in_room, put_of}
use Rattle.report.proofs.Puts.{no_room, all_put}

pub length_hex : (bytes : List ℕ) → length (hex_of bytes) ≡ length bytes * 2
unfolding hex_of
length_hex [] = refl
length_hex (b ∷ t) =
    let h = length_hex t in
    omega arith

-- two digits more
pub two_more : (out bytes : List ℕ) (at i : ℕ) → i < length bytes → sets out (at + i * 2) (hex_of (drop i bytes)) ≡ sets (set (set out (at + i * 2) (digit_of (get_or bytes i 0 / 16))) (at + i * 2 + 1) (digit_of (get_or bytes i 0 % 16))) (at + (i + 1) * 2) (hex_of (drop (i + 1) bytes))
unfolding hex_of
two_more out bytes at i h =
    let next : at + (i + 1) * 2 ≡ suc (suc (at + i * 2)) = omega arith in
    ap (λ (t : List ℕ). sets out (at + i * 2) (hex_of t)) (drop-cons bytes i 0 h) ∙ rw (next, add-one (at + i * 2), add-one i)

-- nothing is left
pub all_digits : (out bytes : List ℕ) (at i : ℕ) → length bytes ≤ i → sets out (at + i * 2) (hex_of (drop i bytes)) ≡ out
unfolding hex_of
all_digits out bytes at i h = ap (λ (t : List ℕ). sets out (at + i * 2) (hex_of t)) (drop_of_length-le bytes h)

pub no_bytes : (bytes : List ℕ) → length bytes ≡ 0 → hyphen ∷ [] ≡ field_of bytes
unfolding field_of
no_bytes [] e = refl
no_bytes (b ∷ t) e = absurd (omega arith)

some_bytes : (bytes : List ℕ) → (length bytes ≡ 0 → ⊥) → hex_of bytes ≡ field_of bytes
unfolding field_of
some_bytes [] e = absurd (e refl)
some_bytes (b ∷ t) e = refl

module _ (out bytes : List ℕ) (at a : ℕ) (some : length bytes ≡ 0 → ⊥) (e : a ≡ in_room (length out) at) where
  field_length : length (field_of bytes) ≡ length bytes * 2
  field_length = rw (← some_bytes bytes some) (length_hex bytes)

  pub field_no_room : (length out - a) / 2 < length bytes → outcome a out ≡ put_of out at (field_of bytes ∷ [])
  field_no_room h = no_room out at a e (field_of bytes) (rw field_length (omega arith))

  pub field_put : (b : List ℕ) → length bytes ≤ (length out - a) / 2 → b ≡ sets out a (hex_of bytes) → outcome (a + length bytes * 2) b ≡ put_of out at (field_of bytes ∷ [])
  field_put b h s = rw (← some_bytes bytes some, ← length_hex bytes) (all_put out at a e (hex_of bytes) b (rw length_hex (omega arith)) s)
