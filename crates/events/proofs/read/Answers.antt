use Prim.Native.Nat.{◌+◌, ◌*◌}
use native.Mathlib.Omega.{arith}
use lib.ListN.{get_or-eq_default}
use Rattle.base.specs.If.{when◌then◌else◌}
use Rattle.events.proofs.read.Goals as goal

pub returns-then-words-k : goal.returns-then-words-k
unfolding when◌then◌else◌
returns-then-words-k c =
    let a = c.args in
    let h = c.if-words-k.true in
    rw (get_or-eq_default a.words.now 0 {n = a.k * 4} (omega arith), get_or-eq_default a.words.now 0 {n = a.k * 4 + 1} (omega arith), get_or-eq_default a.words.now 0 {n = a.k * 4 + 2} (omega arith), get_or-eq_default a.words.now 0 {n = a.k * 4 + 3} (omega arith))
