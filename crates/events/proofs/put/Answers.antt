use native.Mathlib.Omega.{arith}
use mathlib.Core.Path.{sym, ◌∙◌}
use Rattle.events.proofs.Laws.{up_to_none, up_to_more, up_to_all, up_to_four}
use Rattle.events.proofs.put.Goals as goal

-- the first n marks are written, where n is one of 0 to 4, and there are no more
pub returns-in_default : goal.returns-in_default
returns-in_default c = up_to_none _ _ _ _ _ ∙ up_to_all _ _ _ _ _ 0 (sym c.mark_in.ensures ∙ c.in_default.is)

pub returns-in_default-mark_in : goal.returns-in_default-mark_in
returns-in_default-mark_in c =
    let one = up_to_more _ _ _ _ _ 0 _ _ _ _ (sym c.mark_in.ensures ∙ c.in-Some.is) (omega arith) (up_to_none _ _ _ _ _) c.put_one.ensures in
    one ∙ up_to_all _ _ _ _ _ 1 (sym c.mark_in-2.ensures ∙ c.in_default-mark_in.is)

pub returns-in_default-mark_in-2 : goal.returns-in_default-mark_in-2
returns-in_default-mark_in-2 c =
    let one = up_to_more _ _ _ _ _ 0 _ _ _ _ (sym c.mark_in.ensures ∙ c.in-Some.is) (omega arith) (up_to_none _ _ _ _ _) c.put_one.ensures in
    let two = up_to_more _ _ _ _ _ 1 _ _ _ _ (sym c.mark_in-2.ensures ∙ c.in-Some-mark_in.is) (omega arith) one c.put_one-2.ensures in
    two ∙ up_to_all _ _ _ _ _ 2 (sym c.mark_in-3.ensures ∙ c.in_default-mark_in-2.is)

pub returns-in_default-mark_in-3 : goal.returns-in_default-mark_in-3
returns-in_default-mark_in-3 c =
    let one = up_to_more _ _ _ _ _ 0 _ _ _ _ (sym c.mark_in.ensures ∙ c.in-Some.is) (omega arith) (up_to_none _ _ _ _ _) c.put_one.ensures in
    let two = up_to_more _ _ _ _ _ 1 _ _ _ _ (sym c.mark_in-2.ensures ∙ c.in-Some-mark_in.is) (omega arith) one c.put_one-2.ensures in
    let three = up_to_more _ _ _ _ _ 2 _ _ _ _ (sym c.mark_in-3.ensures ∙ c.in-Some-mark_in-2.is) (omega arith) two c.put_one-3.ensures in
    three ∙ up_to_all _ _ _ _ _ 3 (sym c.mark_in-4.ensures ∙ c.in_default-mark_in-3.is)

pub returns : goal.returns
returns c =
    let one = up_to_more _ _ _ _ _ 0 _ _ _ _ (sym c.mark_in.ensures ∙ c.in-Some.is) (omega arith) (up_to_none _ _ _ _ _) c.put_one.ensures in
    let two = up_to_more _ _ _ _ _ 1 _ _ _ _ (sym c.mark_in-2.ensures ∙ c.in-Some-mark_in.is) (omega arith) one c.put_one-2.ensures in
    let three = up_to_more _ _ _ _ _ 2 _ _ _ _ (sym c.mark_in-3.ensures ∙ c.in-Some-mark_in-2.is) (omega arith) two c.put_one-3.ensures in
    let four = up_to_more _ _ _ _ _ 3 _ _ _ _ (sym c.mark_in-4.ensures ∙ c.in-Some-mark_in-3.is) (omega arith) three c.put_one-4.ensures in
    four ∙ up_to_four _ _ _ _ _
