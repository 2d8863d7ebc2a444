-- The invariant: what the pass has found out up to the present place.
use native.Mathlib.Omega.{arith}
use mathlib.Core.Path.{refl}
use Rattle.page.proofs.Passing.{reads_first, counts, reads_return, reads_ill, reads_shift, reads_ascii, reads_plain, reads_more, reads_all, begun_small}
use Rattle.page.proofs.Places.{sized, unsized}
use Rattle.page.proofs.Reading.{next_place}
use Rattle.page.proofs.text.Goals as goal

pub skip_plain-at-requires : goal.skip_plain-at-requires
skip_plain-at-requires c = (omega arith, c.requires.1)

pub loop-at-init : goal.loop-at-init
loop-at-init c = reads_plain _ _ _ _ _ (reads_first _ _ _ _ c.first_anchor-anchor.ensures c.first_anchor-begun.ensures) _ c.skip_plain-at.ensures

pub bounds-page-at : goal.bounds-page-at
bounds-page-at c = c.loop-at-test.true

-- a carriage return
pub line_from-requires : goal.line_from-requires
line_from-requires c =
    let t = c.loop-at-test.true in
    let n = counts _ _ _ _ _ c.loop-at.invariant t in
    (n.before, omega (arith, n.column, t, c.requires.1))

pub returns-then-byte-eq-CARRIAGE_RETURN : goal.returns-then-byte-eq-CARRIAGE_RETURN
returns-then-byte-eq-CARRIAGE_RETURN c = reads_return _ _ _ _ _ c.loop-at.invariant c.loop-at-test.true _ _ c.line_from.ensures c.bad_text.ensures c.if-byte-eq-CARRIAGE_RETURN.true

-- a line feed or a tab, and what is plain behind it
pub anchor_past-anchor-requires : goal.anchor_past-anchor-requires
anchor_past-anchor-requires c =
    let t = c.loop-at-test.true in
    let n = counts _ _ _ _ _ c.loop-at.invariant t in
    let short = c.requires.1 in
    (n.before, omega (arith, n.column, t, short), omega (arith, n.number, t, short), omega (arith, t, short))

pub overflow_add-at : goal.overflow_add-at
overflow_add-at c = omega (arith, c.loop-at-test.true, c.requires.1)

pub skip_plain-at-requires-then-shifts : goal.skip_plain-at-requires-then-shifts
skip_plain-at-requires-then-shifts c = (omega (arith, c.loop-at-test.true), c.requires.1)

pub loop-at-smaller-then-shifts : goal.loop-at-smaller-then-shifts
loop-at-smaller-then-shifts c = omega (arith, c.loop-at-test.true, c.skip_plain-at-then-shifts.ensures.onward)

pub loop-at-preserved-then-shifts : goal.loop-at-preserved-then-shifts
loop-at-preserved-then-shifts c =
    reads_plain _ _ _ _ _
    (reads_shift _ _ _ _ _ c.loop-at.invariant c.loop-at-test.true _ _ _ c.from-b.ensures c.if-byte-lt128.true c.if-byte-eq-CARRIAGE_RETURN.false c.anchor_past-anchor.ensures c.begun_by-begun.ensures)
    _ c.skip_plain-at-then-shifts.ensures

-- another ASCII byte
pub overflow_add-at-then-byte-lt128 : goal.overflow_add-at-then-byte-lt128
overflow_add-at-then-byte-lt128 c = omega (arith, c.loop-at-test.true, c.requires.1)

pub loop-at-smaller-then-byte-lt128 : goal.loop-at-smaller-then-byte-lt128
loop-at-smaller-then-byte-lt128 c = omega (arith, c.loop-at-test.true)

pub loop-at-preserved-then-byte-lt128 : goal.loop-at-preserved-then-byte-lt128
loop-at-preserved-then-byte-lt128 c =
    reads_ascii _ _ _ _ _ c.loop-at.invariant c.loop-at-test.true _ _ c.from-b.ensures c.if-byte-lt128.true c.if-byte-eq-CARRIAGE_RETURN.false c.shifts.ensures c.if-shifts.false

-- a sequence, or none
pub size_at-requires : goal.size_at-requires
size_at-requires c = record { at_in_bounds = c.loop-at-test.true; byte_value = refl }

pub line_from-requires-in_default : goal.line_from-requires-in_default
line_from-requires-in_default c =
    let t = c.loop-at-test.true in
    let n = counts _ _ _ _ _ c.loop-at.invariant t in
    (n.before, omega (arith, n.column, t, c.requires.1))

pub returns-in_default : goal.returns-in_default
returns-in_default c = reads_ill _ _ _ _ _ c.loop-at.invariant c.loop-at-test.true _ _ c.line_from-in_default.ensures c.bad_text-in_default.ensures (unsized _ c.in_default.ensures)

-- past it
pub overflow_add-at-else-byte-lt128 : goal.overflow_add-at-else-byte-lt128
overflow_add-at-else-byte-lt128 c = let s = sized _ _ c.in-Some.ensures in let n = next_place _ _ c.loop-at-test.true _ s.0 in omega (arith, n, c.requires.1)

pub loop-at-smaller : goal.loop-at-smaller
loop-at-smaller c = let s = sized _ _ c.in-Some.ensures in let n = next_place _ _ c.loop-at-test.true _ s.0 in omega (arith, n, s.1)

pub loop-at-preserved : goal.loop-at-preserved
loop-at-preserved c = reads_more _ _ _ _ _ c.loop-at.invariant c.loop-at-test.true _ c.if-byte-lt128.false (sized _ _ c.in-Some.ensures).0 (sized _ _ c.in-Some.ensures).1

-- the page is read
pub line_from-requires-2 : goal.line_from-requires-2
line_from-requires-2 c =
    let pre = c.requires in
    let n = begun_small _ _ _ _ _ c.loop-at.invariant (omega (arith, pre.0, c.loop-at-test.false)) in
    (n.before, omega (arith, n.column, pre.0, pre.1))

pub returns : goal.returns
returns c = reads_all _ _ _ _ _ _ c.loop-at.invariant c.requires.0 c.loop-at-test.false c.line_from-2.ensures
