-- The next part begins past the beginning of the one before it.
use Rattle.std.proofs.Common.{◌-◌, length}
use Rattle.cases.proofs.list_recorded.after_parts.Given as goal

abbrev pub decreases-loop-at : goal.decreases-loop-at
decreases-loop-at l = length l.line - l.at
