-- A piece begins past the beginning of the one before it, and the lent words keep their length.
use Rattle.std.proofs.Common.{◌≡◌, ◌+◌, ◌-◌, length}
use Rattle.cases.proofs.list_comparing.eat_pieces.Given as goal

abbrev pub invariant-loop-piece : goal.invariant-loop-piece
invariant-loop-piece l = length l.words ≡ length l.initial.words

abbrev pub decreases-loop-piece : goal.decreases-loop-piece
decreases-loop-piece l = length l.list.text.now + 1 - l.front.at
