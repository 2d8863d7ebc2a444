use native.Mathlib.Omega.{arith}
use Rattle.crossing.specs.Workers.{worker_out}
use Rattle.crossing.proofs.Tables.{ends}
use Rattle.crossing.proofs.workers.WorkerNumbersFromWorker.from.Goals as goal

pub returns : goal.returns
unfolding worker_out
returns c = rw (ends _ _ 16 c.loop-k.k c.loop-k.places (omega arith) c.loop-k.invariant)
