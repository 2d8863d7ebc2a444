use Rattle.mdx_collect.proofs.Copying.{Kept}
use Rattle.mdx_collect.proofs.copy.Given as goal

abbrev pub invariant-loop-at : goal.invariant-loop-at
invariant-loop-at l = Kept l.page l.from l.end l.initial.scratch l.scratch l.at l.left l.n
