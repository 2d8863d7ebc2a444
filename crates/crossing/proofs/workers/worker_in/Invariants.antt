use Rattle.worker.specs.Place.{beyond}
use Rattle.crossing.specs.Workers.{place_in, numbers_at}
use Rattle.crossing.proofs.Tables.{Begun}
use Rattle.crossing.proofs.workers.worker_in.Given as goal

abbrev pub invariant-loop-k : goal.invariant-loop-k
invariant-loop-k l = Begun (λ i. place_in (numbers_at l.fn.numbers.places i)) beyond 16 l.k l.places
