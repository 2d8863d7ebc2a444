use native.Mathlib.Omega.{arith}
use Rattle.crossing.specs.Workers.{worker_in}
use Rattle.crossing.proofs.Tables.{ends}
use Rattle.crossing.proofs.workers.worker_in.Goals as goal

pub returns : goal.returns
unfolding worker_in
returns c = rw (ends _ _ 16 c.loop-k.k c.loop-k.places (omega arith) c.loop-k.invariant)
