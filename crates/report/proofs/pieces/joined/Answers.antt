use Rattle.report.proofs.Puts.{then_put, within_put}
use Rattle.report.proofs.pieces.joined.Goals as goal

pub returns : goal.returns
returns c =
    let put = then_put _ _ _ _ c.text-past.ensures.out_after c.number.ensures in
    record { upper_bound = within_put _ _ _ put; out_after = put }
