use Rattle.batch.proofs.Lists.{Filling}
use Rattle.batch.proofs.fill.Given as goal

abbrev pub invariant-loop-i : goal.invariant-loop-i
invariant-loop-i l = Filling l.page l.fn.openings l.fn.events l.i l.openings l.events l.run
