use Rattle.base.specs.If.{when◌then◌else◌}
use Rattle.base.specs.Table.{find}
use Rattle.batch.specs.Record.{value_in}
use Rattle.crossing.specs.Answers.{carried, answer_numbers}
use Rattle.crossing.proofs.answers.AnswerNumbersFromReply.from.Goals as goal

pub returns-in-Started : goal.returns-in-Started
unfolding answer_numbers carried value_in find when◌then◌else◌
returns-in-Started c = rw (c.bare.ensures, c.in-Started.is)

pub returns-in-Placed : goal.returns-in-Placed
unfolding answer_numbers carried value_in find when◌then◌else◌
returns-in-Placed c = rw (c.with_place.ensures, c.in-Placed.is)

pub returns-in-Served : goal.returns-in-Served
unfolding answer_numbers carried value_in find when◌then◌else◌
returns-in-Served c = rw (c.with_place-in-Served.ensures, c.in-Served.is)

pub returns-in-Idle : goal.returns-in-Idle
unfolding answer_numbers carried value_in find when◌then◌else◌
returns-in-Idle c = rw (c.bare-in-Idle.ensures, c.in-Idle.is)

pub returns-in-InPage : goal.returns-in-InPage
unfolding answer_numbers carried value_in find when◌then◌else◌
returns-in-InPage c = rw (c.bare-in-InPage.ensures, c.in-InPage.is)

pub returns-in-InScratch : goal.returns-in-InScratch
unfolding answer_numbers carried value_in find when◌then◌else◌
returns-in-InScratch c = rw (c.bare-in-InScratch.ensures, c.in-InScratch.is)

pub returns-in-NoPlace : goal.returns-in-NoPlace
unfolding answer_numbers carried value_in find when◌then◌else◌
returns-in-NoPlace c = rw (c.bare-in-NoPlace.ensures, c.in-NoPlace.is)
