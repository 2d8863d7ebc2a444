-- What inner functions ask of their callers and hand back. No promise to a user of the library cites these.
use Rattle.std.specs.Prelude.{ℕ, ◌≡◌, Bool, true, ◌&&◌, List, Option, Some, None, leb, ltb}
use Rattle.base.specs.If.{when◌then◌else◌}
use Rattle.scan.specs.declared.Answer.TheVariants.{BadCall}
use Rattle.scan.specs.Call as single
use Rattle.worker.specs.declared.Place.{Place}
use Rattle.worker.specs.declared.Worker.{Worker}
use Rattle.worker.specs.declared.Reply.{Reply}
use Rattle.worker.specs.declared.Reply.TheVariants.{Answered}
use Rattle.worker.specs.declared.Called.{Called}
use Rattle.worker.specs.Ring.{places}
use Rattle.worker.specs.Place.{place_of, longest_turn}

abbrev pub called : Worker → Reply → Called
called w r = record { worker = w; reply = r }

-- the worker as it was, and 12
abbrev pub not_called : Worker → Called
not_called w = called w (Answered BadCall)

-- the place that a search gave, if it is one
abbrev pub sought : ℕ → Option ℕ
sought n = when ltb n places then Some n else None

-- `worker_in_range`, of the two numbers that it reads: the place last served, and the steps of a turn
unfoldable pub own_in_range : ℕ → ℕ → Bool
own_in_range last q = ltb last places && (leb 1 q && leb q longest_turn)

-- a place after its run, and its share of the events
pub record Turned (at : ℕ) (run : single.Left) (p : Place) (share : List ℕ) : Type 0 where
  pub place : p ≡ place_of true at run.scan
  pub words : share ≡ run.words
