use Rattle.report.proofs.Puts.{then_put, within_put}
use Rattle.report.proofs.wording.answer_text.Goals as goal

pub returns : goal.returns
returns c =
    let put = then_put _ _ _ _ c.answer_name-past.ensures c.values.ensures in
    record { upper_bound = within_put _ _ _ put; out_after = put }
