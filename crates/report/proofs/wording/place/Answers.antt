use Rattle.report.proofs.Puts.{then_put}
use Rattle.report.proofs.wording.place.Goals as goal

pub returns-in-Some : goal.returns-in-Some
returns-in-Some c = rw c.in-Some.is (then_put _ _ _ _ c.joined-past.ensures.out_after c.joined.ensures.out_after)
