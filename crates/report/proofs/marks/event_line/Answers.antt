use Rattle.report.proofs.Puts.{then_put}
use Rattle.report.proofs.marks.event_line.Goals as goal

pub returns : goal.returns
returns c =
    let begun = rw c.verb.ensures at c.text-past.ensures.out_after in
    let named = then_put _ _ _ _ begun c.kind_name-past.ensures in
    let ended = then_put _ _ _ _ c.in_tab-past.ensures c.text.ensures.out_after in
    let there = then_put _ _ _ _ c.point-past.ensures ended in
    then_put _ _ _ _ named there
