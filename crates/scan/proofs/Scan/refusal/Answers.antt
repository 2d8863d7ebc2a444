use mathlib.Core.Path.{◌∙◌}
use Rattle.base.specs.If.{when◌then◌else◌}
use Rattle.base.specs.Table.{find}
use Rattle.base.proofs.Tables.{not_found}
use Rattle.scan.specs.Answer.{page_answers, refusal}
use Rattle.scan.proofs.Scan.refusal.Goals as goal

pub returns-in-5 : goal.returns-in-5
unfolding refusal find when◌then◌else◌
returns-in-5 c = rw (c.in-5.is, c.spot_in-spot.ensures, c.tally-tally.ensures)

pub returns-in-6 : goal.returns-in-6
unfolding refusal find when◌then◌else◌
returns-in-6 c = rw (c.in-6.is, c.spot_in-spot.ensures, c.tally-tally.ensures)

pub returns-in-7 : goal.returns-in-7
unfolding refusal find when◌then◌else◌
returns-in-7 c = rw (c.in-7.is, c.spot_in-spot.ensures, c.tally-tally.ensures)

pub returns-in-10 : goal.returns-in-10
unfolding refusal find when◌then◌else◌
returns-in-10 c = rw (c.in-10.is, c.spot_in-spot.ensures, c.tally-tally.ensures)

pub returns-in_default : goal.returns-in_default
unfolding refusal
returns-in_default c =
    let s = c.args.self in
    c.verdict_refusal.ensures ∙ not_found s.tokenizer.state (page_answers s) _ c.in_default.in_default-own.rest
