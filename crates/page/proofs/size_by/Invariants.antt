-- The invariant: what is left of the ranges and the bytes decides.
use Rattle.page.proofs.Places.{Left}
use Rattle.page.proofs.size_by.Given as goal

abbrev pub invariant-loop-i : goal.invariant-loop-i
invariant-loop-i g l = Left l.range-items l.rest l.i
