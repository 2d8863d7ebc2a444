use Rattle.report.proofs.Puts.{then_put}
use Rattle.report.proofs.marks.point.Goals as goal

pub returns : goal.returns
returns c =
    let column = then_put _ _ _ _ c.joined-past-2.ensures.out_after c.joined.ensures.out_after in
    then_put _ _ _ _ c.joined-past.ensures.out_after column
