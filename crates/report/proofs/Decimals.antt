-- The fewest digits that hold a number are its decimal digits.
use Prim.Native.Nat.{ℕ, zero, suc, ◌-◌, ◌/◌, ◌%◌, ◌^◌, ◌≤◌, ◌<◌}
use native.Mathlib.Nat.{pow-suc, one-le-pow}
use native.Mathlib.Omega.{arith}
use mathlib.Core.Path.{◌≡◌}
use borrow.Author.Tests.{lt-ltb, le-ltb}
use Rattle.base.specs.If.{when◌then◌else◌}
use Rattle.io.specs.Digits.{last_digits, IsDigitCount}
use Rattle.report.specs.Decimal.{digits_up_to, decimal}

up_to : (k fuel n : ℕ) → IsDigitCount 10 1 n k → n < fuel → last_digits 10 k n ≡ digits_up_to fuel n
unfolding digits_up_to when◌then◌else◌
up_to k zero n f h = absurd (omega arith)
up_to zero (suc fuel) n f h = absurd (omega (arith, f.0))
up_to (suc zero) (suc fuel) n f h =
    let small : n < 10 = f.1 in
    let only : n % 10 ≡ n = omega arith in
    rw (only, lt-ltb n 10 small)
up_to (suc (suc j)) (suc fuel) n f h =
    let some = one-le-pow j 10 (omega arith) in
    let up = pow-suc 10 j in
    let one : suc (suc j) - 1 ≡ suc j = omega arith in
    let other : suc j - 1 ≡ j = omega arith in
    let large : 10 ^ suc j ≤ n = rw one at (f.2 (omega arith)) in
    let ten : 10 ≤ n = omega arith in
    let below : n / 10 < 10 ^ suc j = omega (arith, pow-suc 10 (suc j), f.1) in
    let above : 10 ^ j ≤ n / 10 = omega arith in
    let rest : IsDigitCount 10 1 (n / 10) (suc j) = (omega arith, below, λ g. rw other above) in
    rw (le-ltb n 10 ten, up_to (suc j) fuel (n / 10) rest (omega arith))

pub fewest_is : (k n : ℕ) → IsDigitCount 10 1 n k → last_digits 10 k n ≡ decimal n
unfolding decimal
fewest_is k n f = up_to k (suc n) n f (omega arith)
