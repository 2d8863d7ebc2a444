use native.Mathlib.Omega.{arith}
use mathlib.Core.Path.{◌≡◌, sym, ap, ◌∙◌}
use mathlib.Core.Bool.{true, false}
use lib.ListN.{get_or}
use Rattle.base.specs.Page.{byte_at}
use Rattle.body_places.proofs.Place.{byte_in}
use Rattle.body_places.specs.Body.{in_prefix, splits, prefix_after}
use Rattle.mdx_collect.proofs.Laws.{passed_over, passed_by}
use Rattle.mdx_collect.proofs.Copying.{one_copied}
use Rattle.mdx_collect.proofs.copy.Goals as goal

pub loop-at-preserved-then-in_prefix : goal.loop-at-preserved-then-in_prefix
loop-at-preserved-then-in_prefix c =
    let l = c.loop-at in
    let a = c.args in
    let h = c.loop-at-test.true in
    let e : in_prefix (byte_at a.page.now l.at) l.left ≡ true = rw c.byte_at-b.ensures at (sym c.in_prefix.ensures ∙ c.if-in_prefix.true) in
    (l.invariant.0, l.invariant.1, rw (passed_over a.page.now l.left l.at a.end h e) l.invariant.2, l.invariant.3 ∙ passed_by a.page.now l.scratch l.left l.at a.end l.n h e)

pub loop-at-preserved : goal.loop-at-preserved
loop-at-preserved c =
    let l = c.loop-at in
    let a = c.args in
    let page = a.page.now in
    let e : in_prefix (byte_at page l.at) l.left ≡ false = rw c.byte_at-b.ensures at (sym c.in_prefix.ensures ∙ c.if-in_prefix.false) in
    let f : splits (byte_at page l.at) l.left ≡ false = rw c.byte_at-b.ensures at (sym c.splits.ensures ∙ c.if-splits.false) in
    let b = byte_in page l.at (omega arith) in
    one_copied page a.from a.end a.scratch.now l.scratch l.at l.left l.n l.invariant c.loop-at-test.true e (get_or page l.at 0) c.prefix_after-left.result
    f b (c.prefix_after-left.ensures ∙ ap prefix_after c.byte_at-b.ensures)
