use Prim.Native.Nat.{◌-◌}
use mathlib.Core.Path.{◌≡◌}
use Rattle.crossing.specs.Workers.{place_listed, numbers_at, each, worker_listed}
use Rattle.crossing.proofs.workers.worker_listed.Given as goal

-- the places from this one on are yet to be tested
abbrev pub invariant-loop-place : goal.invariant-loop-place
invariant-loop-place l = worker_listed l.fn.numbers ≡ each (λ i. place_listed (numbers_at l.fn.numbers.places i)) l.place-index (16 - l.place-index)
