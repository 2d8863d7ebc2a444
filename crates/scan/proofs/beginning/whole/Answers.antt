-- The page of a scan that was begun is admitted: it lies inside the lent bytes, and its steps can be counted.
use native.Mathlib.Omega.{arith}
use borrow.Author.Rules.{rules}
use Rattle.scan.proofs.Wholes.{whole_admitted, whole_ran, whole_refused}
use Rattle.scan.proofs.beginning.whole.Goals as goal

pub overflow_add-end : goal.overflow_add-end
overflow_add-end c = let l = (whole_admitted c.args.bytes.now c.args.request.at c.args.request.length c.args.request.start c.args.request.construct c.args.request.kind c.args.request.flags c.args.events.now _ c.requires _ c.begin_checked-began.ensures _ c.in-Ok.is).lies in omega arith

pub step_bound-allowance-requires : goal.step_bound-allowance-requires
step_bound-allowance-requires c =
    let admitted = whole_admitted c.args.bytes.now c.args.request.at c.args.request.length c.args.request.start c.args.request.construct c.args.request.kind c.args.request.flags c.args.events.now _ c.requires _ c.begin_checked-began.ensures _ c.in-Ok.is in
    (admitted.starts, admitted.short)

pub slice_bounds-run-end : goal.slice_bounds-run-end
slice_bounds-run-end c = let l = (whole_admitted c.args.bytes.now c.args.request.at c.args.request.length c.args.request.start c.args.request.construct c.args.request.kind c.args.request.flags c.args.events.now _ c.requires _ c.begin_checked-began.ensures _ c.in-Ok.is).lies in search (rules, l)

pub returns-in-Ok : goal.returns-in-Ok
returns-in-Ok c =
    let a = c.args in
    whole_ran a.bytes.now a.request.at a.request.length a.request.start a.request.construct a.request.kind a.request.flags a.events.now _ c.requires _ c.begin_checked-began.ensures _ _ _ c.in-Ok.is c.step_bound-allowance.ensures c.run.ensures

pub returns-in-Err : goal.returns-in-Err
returns-in-Err c =
    let a = c.args in
    let k = c.not_begun.ensures in
    rw (k.0, k.1) (whole_refused a.bytes.now a.request.at a.request.length a.request.start a.request.construct a.request.kind a.request.flags a.events.now _ c.requires _ c.begin_checked-began.ensures _ c.in-Err.is)
