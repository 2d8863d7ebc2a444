use Rattle.std.proofs.Common.{◌∙◌, sym, ap, set}
use Rattle.batch.specs.declared.Filled.{Filled}
use Rattle.batch.specs.Batch.{batch}
use Rattle.batch.proofs.Lists.{start_filling, filled_all, filled_more, filled_last}
use Rattle.batch.proofs.fill.Goals as goal

pub loop-i-init : goal.loop-i-init
loop-i-init c = start_filling _ _ _ c.begin-run.result (sym c.if-not-all_counting.ensures) c.begin-run.ensures.used c.begin-run.ensures.counted_from
    (c.begin-run.ensures.sound _)

pub answer_one-run-requires : goal.answer_one-run-requires
answer_one-run-requires c = c.loop-i.invariant.sound

pub returns-then-ends_list : goal.returns-then-ends_list
returns-then-ends_list c =
    let e = c.answer_one-run.ensures in
    ap (λ (x : Filled). batch x (set c.loop-i.openings c.loop-i.i c.answer_one-run.new.opening) c.answer_one-run.new.words) c.outcome-then-ends_list.ensures
    ∙ filled_last _ _ _ _ _ _ _ c.loop-i.invariant c.loop-i-test.true _ _ _ c.answer_one-run.result e.record e.words e.used c.if-ends_list.ensures

pub loop-i-preserved : goal.loop-i-preserved
loop-i-preserved c =
    let e = c.answer_one-run.ensures in
    filled_more _ _ _ _ _ _ _ c.loop-i.invariant c.loop-i-test.true _ _ _ _ e.record e.words e.used e.counted_from e.sound c.if-ends_list.ensures

pub returns : goal.returns
returns c =
    ap (λ (x : Filled). batch x c.loop-i.openings c.loop-i.events) c.outcome-2.ensures
    ∙ filled_all _ _ _ _ _ _ _ c.loop-i.invariant c.loop-i-test.false c.loop-i.auto.i-end
