use Prim.Native.Nat.{◌+◌, ◌-◌, ◌%◌}
use mathlib.Core.Path.{◌≡◌}
use Rattle.worker.specs.Ring.{seek}
use Rattle.worker.specs.Place.{place_in, running, next_in}
use Rattle.worker.proofs.turning.next_running.Given as goal

abbrev pub invariant-loop-next : goal.invariant-loop-next
invariant-loop-next l = next_in l.ring l.last ≡ seek (λ k. running (place_in l.ring k)) (l.next % 16) (l.last + 17 - l.next)
