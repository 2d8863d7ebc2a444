-- What is left of the ranges and the bytes decides.
use mathlib.Core.Path.{refl, sym, ◌∙◌}
use borrow.Author.Tests.{ltb-true, ltb-false}
use Rattle.std.proofs.Common.{rules}
use Rattle.base.proofs.Choice.{if_yes, if_no}
use Rattle.page.proofs.Places.{left_none, left_all, left_short, left_other, left_more}
use Rattle.page.proofs.size_by.Goals as goal

pub loop-i-init : goal.loop-i-init
loop-i-init g c = left_none _ _

pub returns-in_err-byte : goal.returns-in_err-byte
returns-in_err-byte g c =
    c.from_residual.ensures
    ∙ if_no _ _ _ _ _ (left_short _ _ _ c.loop-i.invariant (search rules) (1, 0) (ltb-false _ _ (sym c.in_err-byte.ensures.lookup.0))) refl

pub returns-then-not-holds : goal.returns-then-not-holds
returns-then-not-holds g c =
    let h = c.in_ok-byte.ensures.lookup in
    if_no _ _ _ _ _ (left_other _ _ _ c.loop-i.invariant (search rules) _ (ltb-true _ _ (sym h.0)) _ h.1 (sym c.holds.ensures ∙ c.if-not-holds.true)) refl

pub loop-i-preserved : goal.loop-i-preserved
loop-i-preserved g c =
    let h = c.in_ok-byte.ensures.lookup in
    left_more _ _ _ c.loop-i.invariant (search rules) _ (ltb-true _ _ (sym h.0)) _ h.1 (sym c.holds.ensures ∙ c.if-not-holds.false)

pub returns : goal.returns
returns g c = if_yes _ _ _ _ _ (left_all _ _ _ c.loop-i.invariant (search rules)) refl
