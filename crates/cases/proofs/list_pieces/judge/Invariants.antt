-- A piece begins past the beginning of the one before it.
use Rattle.std.proofs.Common.{◌+◌, ◌-◌, length}
use Rattle.cases.proofs.list_pieces.judge.Given as goal

abbrev pub decreases-loop-at : goal.decreases-loop-at
decreases-loop-at l = length l.text + 1 - l.at
