use Rattle.report.proofs.Puts.{then_put, within_put}
use Rattle.report.proofs.marks.event_mark.Goals as goal

pub returns : goal.returns
returns c =
    let signed = rw c.sign.ensures at c.text-past.ensures.out_after in
    let named = then_put _ _ _ _ signed c.kind_name-past.ensures in
    let there = then_put _ _ _ _ c.point-past.ensures c.in_tab.ensures in
    let put = then_put _ _ _ _ named there in
    record { upper_bound = within_put _ _ _ put; out_after = put }
