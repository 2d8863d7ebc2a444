use Rattle.base.specs.If.{when◌then◌else◌}
use Rattle.base.specs.Table.{find}
use Rattle.base.proofs.Tables.{not_found}
use Rattle.scan.specs.Answer.{verdict_answers, verdict_refusal}
use Rattle.scan.proofs.Scan.verdict_refusal.Goals as goal

pub returns-in-8 : goal.returns-in-8
unfolding verdict_refusal find when◌then◌else◌
returns-in-8 c = rw (c.in-8.is, c.spot_in-spot.ensures, c.tally-tally.ensures)

pub returns-in-9 : goal.returns-in-9
unfolding verdict_refusal find when◌then◌else◌
returns-in-9 c = rw (c.in-9.is, c.spot_in-spot-in-9.ensures, c.tally-tally.ensures)

pub returns-in_default : goal.returns-in_default
unfolding verdict_refusal
returns-in_default c =
    let s = c.args.self in
    not_found s.tokenizer.state (verdict_answers s) _ c.in_default.in_default-own.rest
