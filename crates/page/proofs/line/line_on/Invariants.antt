-- The invariant: the line and column are those of the place which the loop has come to.
use mathlib.Core.Path.{◌≡◌}
use Rattle.page.specs.Line.{line_at}
use Rattle.page.proofs.line.line_on.Given as goal

abbrev pub invariant-loop-at : goal.invariant-loop-at
invariant-loop-at l = l.line ≡ line_at l.page l.at
