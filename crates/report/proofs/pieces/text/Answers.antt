use Rattle.std.proofs.Common.{arith}
use Rattle.report.proofs.Puts.{all_put, part_put}
use Rattle.report.proofs.pieces.text.Goals as goal

pub returns-clause-out_after : goal.returns-clause-out_after
returns-clause-out_after c =
    let a = c.args in
    let place = c.min-place in
    all_put a.out.now a.at place.result place.ensures a.bytes.now _ c.if-out-place.false (part_put a.out.now a.bytes.now _ place.result _ c.copy_from_slice.ensures.after (omega arith) (omega arith))
