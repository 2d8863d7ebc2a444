use native.Mathlib.Omega.{arith}
use Prim.Native.Nat.{◌-◌}
use mathlib.Core.Path.{refl, ◌∙◌}
use borrow.Author.Tests.{lt-ltb, le-ltb}
use Rattle.base.proofs.Choice.{if_yes, if_no}
use Rattle.base.specs.Decide.{retry, count_of}
use Rattle.base.specs.State.{full}
use Rattle.base.specs.declared.Marks.TheVariants.{Nothing}
use Rattle.events.specs.Words.{room_in}
use Rattle.scan.proofs.Scan.carried_out.Goals as goal

pub overflow_sub-left : goal.overflow_sub-left
overflow_sub-left c = omega (arith, c.room_in.ensures, c.requires)

-- no room
pub returns-then-left-count : goal.returns-then-left-count
returns-then-left-count c =
    let a = c.args in
    c.retry.ensures ∙ if_yes _ _ (retry full Nothing) (retry full Nothing) a.m (lt-ltb (room_in a.self.tokenizer.job.words - a.self.used) (count_of a.m.marks) (omega (arith, c.if-left-count.true, c.count.ensures, c.room_in.ensures))) refl

-- the events fit
pub returns : goal.returns
returns c =
    let a = c.args in
    if_no _ _ a.m (retry full Nothing) a.m (le-ltb (room_in a.self.tokenizer.job.words - a.self.used) (count_of a.m.marks) (omega (arith, c.if-left-count.false, c.count.ensures, c.room_in.ensures))) refl
