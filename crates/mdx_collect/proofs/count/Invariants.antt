use Prim.Native.Nat.{◌+◌, ◌*◌, ◌≤◌}
use mathlib.Core.Path.{◌≡◌}
use lib.ListN.{length}
use Rattle.body_places.specs.Body.{expression_cells}
use Rattle.mdx_collect.proofs.Laws.{bytes_left}
use Rattle.mdx_collect.proofs.count.Given as goal

-- what is counted and what is left to count make the whole
abbrev pub invariant-loop-at : goal.invariant-loop-at
invariant-loop-at l = (l.n ≤ 4 * l.at) × (l.n + length (bytes_left l.page l.left l.at l.to) ≡ length (expression_cells l.page l.from l.to))
