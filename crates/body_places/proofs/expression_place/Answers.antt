use native.Mathlib.Omega.{arith}
use mathlib.Core.Path.{◌≡◌, sym, ◌∙◌}
use mathlib.Core.Bool.{true, false}
use Rattle.base.specs.Page.{byte_at}
use Rattle.body_places.specs.Body.{in_prefix, splits}
use Rattle.body_places.proofs.Laws.{skipped, in_split, past_split, passed, here, nowhere, prefix_small, drift_small}
use Rattle.body_places.proofs.expression_place.Goals as goal
use Rattle.body_places.proofs.expression_place.Goals.{then-in_prefix, else-in_prefix+then-splits+else-more-n, else-in_prefix+else-splits+else-more-eq0}

-- in a tab that is split
pub returns-then-more-n : goal.returns-then-more-n
returns-then-more-n c =
    let page = c.args.page.now in
    let l = c.loop-at in
    let e : in_prefix (byte_at page l.at) l.left ≡ false = rw c.byte_at-b.ensures at (sym c.in_prefix.ensures ∙ c.if-in_prefix.false) in
    let f : splits (byte_at page l.at) l.left ≡ true = rw c.byte_at-b.ensures at (sym c.splits.ensures ∙ c.if-splits.true) in
    in_split page l.left l.drift l.at c.args.to l.more c.loop-at-test.true e f _ c.spaces-n.ensures c.if-more-n.true ∙ l.invariant.2

-- at any other byte
pub returns-then-more-eq0 : goal.returns-then-more-eq0
returns-then-more-eq0 c =
    let page = c.args.page.now in
    let l = c.loop-at in
    let e : in_prefix (byte_at page l.at) l.left ≡ false = rw c.byte_at-b.ensures at (sym c.in_prefix.ensures ∙ c.if-in_prefix.false) in
    let f : splits (byte_at page l.at) l.left ≡ false = rw c.byte_at-b.ensures at (sym c.splits.ensures ∙ c.if-splits.false) in
    rw (c.drift_at-drift.ensures, c.byte_at-b.ensures) (here page l.left l.drift l.at c.args.to l.more c.loop-at-test.true e f c.if-more-eq0.true ∙ l.invariant.2)

-- past a byte of a line prefix, past a tab that is split, past any other byte
pub loop-at-preserved : goal.loop-at-preserved
loop-at-preserved c =
    let page = c.args.page.now in
    let l = c.loop-at in
    elim c.if-in_prefix.branch [
      | then-in_prefix w ↦
          let e : in_prefix (byte_at page l.at) l.left ≡ true = rw c.byte_at-b.ensures at (sym c.in_prefix.ensures ∙ w.if-in_prefix.true) in
          rw (w.left-is, w.drift-is, w.more-is)
          (omega (arith, l.invariant.0), l.invariant.1, skipped page l.left l.drift l.at c.args.to l.more c.loop-at-test.true e ∙ l.invariant.2)
      | else-in_prefix+then-splits+else-more-n w ↦
          let e : in_prefix (byte_at page l.at) l.left ≡ false = rw c.byte_at-b.ensures at (sym c.in_prefix.ensures ∙ w.if-in_prefix.false) in
          let f : splits (byte_at page l.at) l.left ≡ true = rw c.byte_at-b.ensures at (sym w.splits.ensures ∙ w.if-splits.true) in
          rw (w.left-is, w.drift-is, w.more-is)
          (omega arith, omega (arith, w.spaces-n.ensures), past_split page l.left l.drift l.at c.args.to l.more c.loop-at-test.true e f _ w.spaces-n.ensures w.if-more-n.false ∙ l.invariant.2)
      | else-in_prefix+else-splits+else-more-eq0 w ↦
          let e : in_prefix (byte_at page l.at) l.left ≡ false = rw c.byte_at-b.ensures at (sym c.in_prefix.ensures ∙ w.if-in_prefix.false) in
          let f : splits (byte_at page l.at) l.left ≡ false = rw c.byte_at-b.ensures at (sym w.splits.ensures ∙ w.if-splits.false) in
          rw (w.left-is, w.drift-is, w.more-is, w.prefix_after-left.ensures, w.drift_at-drift.ensures, c.byte_at-b.ensures)
          (prefix_small (byte_at page l.at), drift_small (byte_at page l.at) l.drift l.invariant.1, passed page l.left l.drift l.at c.args.to l.more c.loop-at-test.true e f w.if-more-eq0.false ∙ l.invariant.2)
    ]

pub returns : goal.returns
returns c = nowhere _ _ _ _ _ _ c.loop-at-test.false ∙ c.loop-at.invariant.2
