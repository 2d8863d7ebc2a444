-- A test does not come out both ways.
use Prim.Native.Nat.{ℕ}
use mathlib.Core.Path.{◌≡◌}
use mathlib.Core.Bool.{Bool, true, false}
use native.Mathlib.Omega.{arith}

pub clash : {A : Type 0} (b : Bool) → b ≡ true → b ≡ false → A
clash b p q =
    let n : ◌≡◌ {A = ℕ} 0 1 = cc in
    absurd (omega arith)
