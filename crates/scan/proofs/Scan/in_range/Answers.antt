use native.Mathlib.Omega.{arith}
use Prim.Native.Nat.{ℕ}
use mathlib.Core.Path.{◌≡◌, sym, ◌∙◌}
use Rattle.scan.proofs.Ranged.{ranged}
use Rattle.scan.proofs.Scan.in_range.Goals as goal
use Rattle.scan.proofs.Scan.in_range.Goals.{then-in_range, else-in_range}

pub step_bound-requires : goal.step_bound-requires
step_bound-requires c =
    elim c.if-in_range.branch [
      | then-in_range w ↦ let r = ranged _ (sym c.in_range.ensures ∙ w.if-in_range.true) in (r.start, r.short)
      | else-in_range w ↦ let clash : ◌≡◌ {A = ℕ} 0 1 = cc in absurd (omega arith)
    ]
