use Rattle.scan.proofs.Runs.{Going}
use Rattle.scan.proofs.Scan.go.Given as goal

abbrev pub invariant-loop-left : goal.invariant-loop-left
invariant-loop-left l = Going l.page l.initial.words l.allowance l.initial.s l.words l.s l.left

abbrev pub decreases-loop-left : goal.decreases-loop-left
decreases-loop-left l = l.left
