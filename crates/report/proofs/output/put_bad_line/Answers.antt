use Rattle.report.proofs.Puts.{then_put}
use Rattle.report.proofs.output.put_bad_line.Goals as goal

pub returns : goal.returns
returns g c =
    let begun = rw c.make_room-at.ensures.value at c.text-at.ensures.out_after in
    let counted = then_put _ _ _ _ begun c.number-at.ensures in
    let said = then_put _ _ _ _ counted c.text-at-2.ensures.out_after in
    then_put _ _ _ _ said c.text.ensures.out_after
