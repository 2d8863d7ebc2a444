use Prim.Native.Nat.{ℕ, ◌+◌}
use native.Mathlib.Omega.{arith}
use mathlib.Core.Path.{◌≡◌, ◌∙◌}
use lib.Dec.{ltb}
use lib.ListN.{length}
use borrow.Author.Tests.{ltb-true, ltb-false}
use Rattle.std.proofs.Common.{min}
use Rattle.std.proofs.Math.Nat.{min-le_right, min-eq_left, min-eq_right}
use Rattle.base.specs.If.{when◌then◌else◌}
use Rattle.base.proofs.Choice.{case, if_yes, if_no}
use Rattle.scan.proofs.lines.within_end.Goals as goal

pick : (a n : ℕ) → min a n ≡ (when ltb a n then a else n)
pick a n = case _ (ltb a n)
    (λ e. if_yes _ _ _ _ _ e (min-eq_left (let h = ltb-true a n e in omega arith)))
    (λ e. if_no _ _ _ _ _ e (min-eq_right (let h = ltb-false a n e in omega arith)))

pub returns : goal.returns
returns c =
    let a = c.args.place in
    let n = length c.args.page.now + 1 in
    let m : c.min.result ≡ min a n = c.min.ensures in
    (m ∙ pick a n, rw m (min-le_right a n))
