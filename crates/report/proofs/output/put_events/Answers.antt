-- The invariant: the events passed are put, and those that are left make the whole.
use Rattle.std.proofs.Common.{arith, refl, ◌∙◌}
use Rattle.report.proofs.Each.{each_begun, each_more, each_done}
use Rattle.report.proofs.output.put_events.Goals as goal

pub loop-k-init : goal.loop-k-init
loop-k-init g c =
    let a = c.args in
    (refl, each_begun g.T.EventText.pieces a.words.now c.held-most.result a.out.now a.used)

pub loop-k-preserved : goal.loop-k-preserved
loop-k-preserved g c =
    let l = c.loop-k in
    let put = c.put-at in
    let more = each_more g.T.EventText.pieces c.args.words.now c.held-most.result l.k l.out l.at put.result put.new.out (omega arith) (rw (c.read.ensures, c.make_room-place.ensures.value) at put.ensures) in
    (put.auto.out ∙ l.invariant.0, more ∙ l.invariant.1)

pub returns : goal.returns
returns g c =
    let l = c.loop-k in
    let most = c.held-most in
    each_done g.T.EventText.pieces c.args.words.now most.result l.k l.out l.at (omega arith) ∙ l.invariant.1 ∙ rw most.ensures
