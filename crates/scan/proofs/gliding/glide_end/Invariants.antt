-- The invariant: the state passes each byte that is behind.
use Rattle.scan.specs.Gliding.{GlidesTo}
use Rattle.scan.proofs.gliding.glide_end.Given as goal

abbrev pub invariant-loop-end : goal.invariant-loop-end
invariant-loop-end l = GlidesTo l.page l.name l.quote l.from l.limit l.end
