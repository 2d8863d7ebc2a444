use Rattle.worker.specs.Place.{place_in}
use Rattle.crossing.specs.Workers.{beyond, place_out}
use Rattle.crossing.proofs.Tables.{Begun}
use Rattle.crossing.proofs.workers.WorkerNumbersFromWorker.from.Given as goal

abbrev pub invariant-loop-k : goal.invariant-loop-k
invariant-loop-k l = Begun (λ i. place_out (place_in l.fn.worker.places i)) beyond 16 l.k l.places
