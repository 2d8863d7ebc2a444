use mathlib.Core.Path.{◌∙◌}
use borrow.Author.Tests.{le-leb, lt-leb}
use Rattle.base.specs.If.{when◌then◌else◌}
use Rattle.base.proofs.Choice.{if_yes, if_no}
use Rattle.base.specs.Table.{find}
use Rattle.base.proofs.Tables.{not_found}
use Rattle.scan.specs.Answer.{end_answers, answer_of}
use Rattle.scan.proofs.Scan.stands.Goals as goal

pub returns-then-name-ge-FIRST_RUNNING : goal.returns-then-name-ge-FIRST_RUNNING
unfolding answer_of
returns-then-name-ge-FIRST_RUNNING c = if_yes _ _ _ _ _ (le-leb 32 _ c.if-name-ge-FIRST_RUNNING.true) (rw (c.spot_in-spot.ensures, c.tally-tally.ensures))

pub returns-in-0 : goal.returns-in-0
unfolding answer_of find when◌then◌else◌
returns-in-0 c = rw (c.in-0.is, c.tally-tally.ensures)

pub returns-in-1 : goal.returns-in-1
unfolding answer_of find when◌then◌else◌
returns-in-1 c = rw (c.in-1.is, c.tally-tally.ensures)

pub returns-in-31 : goal.returns-in-31
unfolding answer_of find when◌then◌else◌
returns-in-31 c = rw (c.in-31.is, c.spot_in-spot.ensures, c.tally-tally.ensures)

pub returns-in_default : goal.returns-in_default
unfolding answer_of
returns-in_default c =
    let s = c.args.self in
    if_no _ _ _ _ _ (lt-leb 32 _ c.if-name-ge-FIRST_RUNNING.false) (c.refusal.ensures ∙ not_found s.tokenizer.state (end_answers s) _ c.in_default.in_default-own.rest)
