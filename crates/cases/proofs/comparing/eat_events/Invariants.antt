-- The piece keeps its length from event to event.
use Rattle.std.proofs.Common.{◌≡◌, length}
use Rattle.cases.proofs.comparing.eat_events.Given as goal

abbrev pub invariant-loop-k : goal.invariant-loop-k
invariant-loop-k l = length l.piece ≡ length l.initial.piece
