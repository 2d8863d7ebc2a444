use Rattle.base.proofs.Choice.{picks}
use Rattle.report.specs.Output.{bad_lines_put}
use Rattle.report.proofs.Puts.{then_put}
use Rattle.report.proofs.output.put_bad_lines.Goals as goal

pub returns : goal.returns
unfolding bad_lines_put
returns g c =
    let counted = rw c.make_room-at.ensures.value at c.number-at.ensures in
    let put = then_put _ _ _ _ counted c.text.ensures.out_after in
    search (picks, put) depth 12
