-- What is known of a page that is not too long holds for another start too; the part that is lent to `line_by` is the page.
use Prim.Native.Nat.{◌+◌, ◌-◌}
use native.Mathlib.Omega.{arith}
use mathlib.Core.Path.{◌≡◌, ap, ◌∙◌}
use lib.ListN.{length, take, drop, length-take, length-drop}
use Rattle.std.specs.Prelude.{Ok}
use Rattle.std.proofs.lemmas.Result.{err_from_is_err_and}
use Rattle.page.specs.Line.{line_at}
use Rattle.page.specs.Page.{page_of}
use Rattle.page.proofs.Rechecked.{refused_again, was_good, good_again}
use Rattle.page.proofs.recheck.Goals as goal

pub returns-in_err-line : goal.returns-in_err-line
returns-in_err-line c =
    let a = c.args in
    let p = err_from_is_err_and c.from_residual-in_err-line.result c.from_residual-in_err-line.ensures.1 in
    let taken = c.in_ok-numbers_fit.ensures.taken in
    rw (p.1, p.2) (refused_again a.bytes.now a.at a.length a.from a.start _ c.requires.0 _ c.in_err-line.was taken.0 c.requires.1 taken.1)

pub overflow_add-end : goal.overflow_add-end
overflow_add-end c = let l = (was_good c.args.bytes.now c.args.at c.args.length c.args.from c.args.start _ c.requires.0 _ c.in_ok-line.was).1.lies in omega arith

pub slice_bounds-line_by-end : goal.slice_bounds-line_by-end
slice_bounds-line_by-end c = (was_good c.args.bytes.now c.args.at c.args.length c.args.from c.args.start _ c.requires.0 _ c.in_ok-line.was).1.lies

pub line_by-requires : goal.line_by-requires
line_by-requires c =
    let a = c.args in
    let w = was_good c.args.bytes.now c.args.at c.args.length c.args.from c.args.start _ c.requires.0 _ c.in_ok-line.was in
    let taken = c.in_ok-numbers_fit.ensures.taken in
    let whole : a.at + a.length - a.at ≡ a.length = omega arith in
    let long : length (take (a.at + a.length - a.at) (drop a.at a.bytes.now)) ≡ a.length = simp (length-take, length-drop) (omega (arith, w.1.lies)) in
    (omega (arith, long, taken.0), omega (arith, long, taken.1), w.0 ∙ rw whole)

pub returns : goal.returns
returns c =
    let a = c.args in
    let whole : a.at + a.length - a.at ≡ a.length = omega arith in
    let line : c.line_by.result ≡ line_at (page_of a.bytes.now a.at a.length) a.start = c.line_by.ensures ∙ rw whole in
    ap Ok line ∙ good_again a.bytes.now a.at a.length a.from a.start _ c.requires.0 _ c.in_ok-line.was c.in_ok-numbers_fit.ensures.taken.1
