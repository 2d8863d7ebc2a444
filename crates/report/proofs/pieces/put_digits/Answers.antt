-- The invariant: what is put and what is left to put make the whole.
use Rattle.std.proofs.Common.{arith, sym, ◌∙◌, length-set}
use Rattle.report.proofs.Digits.{two_more, all_digits}
use Rattle.report.proofs.pieces.put_digits.Goals as goal

pub loop-i-preserved : goal.loop-i-preserved
loop-i-preserved c =
    let a = c.args in
    let l = c.loop-i in
    (simp length-set l.invariant.0, l.invariant.1 ∙ two_more l.out a.bytes.now a.at l.i (omega arith) ∙ rw (c.hex_digit.ensures, c.hex_digit-in-loop-i.ensures))

pub returns : goal.returns
returns c =
    let a = c.args in
    let l = c.loop-i in
    sym (l.invariant.1 ∙ all_digits l.out a.bytes.now a.at l.i (omega arith))
