use native.Mathlib.Omega.{arith}
use borrow.Author.Rules.{rules}
use Rattle.scan.proofs.Singles.{begun_lies, single_ran, single_refused}
use Rattle.scan.proofs.beginning.single.Goals as goal

-- the page lies inside the lent bytes
pub overflow_add-end : goal.overflow_add-end
overflow_add-end c =
    let a = c.args in
    let l = begun_lies a.bytes.now a.request.at a.request.length a.request.start a.request.construct a.request.kind a.request.flags a.allowance a.events.now _ c.new-began.ensures _ c.in-Ok.is in
    omega arith

pub slice_bounds-run-end : goal.slice_bounds-run-end
slice_bounds-run-end c =
    let a = c.args in
    let l = begun_lies a.bytes.now a.request.at a.request.length a.request.start a.request.construct a.request.kind a.request.flags a.allowance a.events.now _ c.new-began.ensures _ c.in-Ok.is in
    search (rules, l)

pub returns-in-Ok : goal.returns-in-Ok
returns-in-Ok c =
    let a = c.args in
    single_ran a.bytes.now a.request.at a.request.length a.request.start a.request.construct a.request.kind a.request.flags a.allowance a.events.now _ c.new-began.ensures _ _ c.in-Ok.is c.if-allowance-eq0.false c.run.ensures

pub returns-in-Err : goal.returns-in-Err
returns-in-Err c =
    let a = c.args in
    let k = c.not_begun-in-Err.ensures in
    rw (k.0, k.1) (single_refused a.bytes.now a.request.at a.request.length a.request.start a.request.construct a.request.kind a.request.flags a.allowance a.events.now _ c.new-began.ensures _ c.in-Err.is c.if-allowance-eq0.false)
