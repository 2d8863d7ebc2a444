use native.Mathlib.Omega.{arith}
use mathlib.Core.Path.{sym}
use Rattle.scan.proofs.Glided.{count_over, count_full, count_on}
use Rattle.scan.proofs.stepping.count_steps.Goals as goal

pub returns-then-bound-steps : goal.returns-then-bound-steps
returns-then-bound-steps c = let a = c.args in sym (count_over a.steps a.bound a.k c.if-bound-steps.true)

pub returns-then-bound-steps-2 : goal.returns-then-bound-steps-2
returns-then-bound-steps-2 c = let a = c.args in sym (count_full a.steps a.bound a.k (omega (arith, c.if-bound-steps.false)) (omega (arith, c.if-bound-steps-2.true)))

pub returns : goal.returns
returns c = let a = c.args in sym (count_on a.steps a.bound a.k (omega (arith, c.if-bound-steps.false, c.if-bound-steps-2.false)))
