-- The invariant: what the pass has found out up to the present place.
use Prim.Native.Nat.{◌-◌}
use lib.ListN.{length}
use Rattle.page.proofs.Passing.{Reads}
use Rattle.page.proofs.text.Given as goal

abbrev pub invariant-loop-at : goal.invariant-loop-at
invariant-loop-at l = Reads l.page l.start l.at l.anchor l.begun

abbrev pub decreases-loop-at : goal.decreases-loop-at
decreases-loop-at l = length l.page - l.at
