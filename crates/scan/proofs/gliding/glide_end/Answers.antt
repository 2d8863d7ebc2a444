use native.Mathlib.Omega.{arith}
use mathlib.Core.Path.{◌≡◌}
use Rattle.scan.proofs.Glided.{gliding_none, gliding_more}
use Rattle.scan.proofs.gliding.glide_end.Goals as goal

pub loop-end-init : goal.loop-end-init
loop-end-init c = gliding_none _ _ _ _ _ c.requires.0

pub bounds-page-end : goal.bounds-page-end
bounds-page-end c = omega (arith, c.loop-end-test.true, c.requires.1)

pub returns-then-not-glides : goal.returns-then-not-glides
returns-then-not-glides c = c.loop-end.invariant

pub loop-end-preserved : goal.loop-end-preserved
loop-end-preserved c =
    gliding_more _ _ _ _ _ _ _ c.loop-end.invariant c.loop-end-test.true c.requires.1 (rw c.from.ensures at c.glides.ensures) c.if-not-glides.false

pub returns : goal.returns
returns c =
    let l = c.loop-end in
    let end : l.end ≡ c.args.limit = omega (arith, l.auto.end-end c.requires.0, c.loop-end-test.false) in
    rw end at l.invariant
