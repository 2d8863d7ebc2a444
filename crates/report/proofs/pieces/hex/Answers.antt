use Rattle.report.proofs.Digits.{field_put}
use Rattle.report.proofs.pieces.hex.Goals as goal

pub returns : goal.returns
returns c =
    let a = c.args in
    let place = c.min-place in
    let done = c.put_digits in
    field_put a.out.now a.bytes.now a.at place.result c.if-bytes-eq0.false place.ensures done.new.out c.if-out-place.false done.ensures
