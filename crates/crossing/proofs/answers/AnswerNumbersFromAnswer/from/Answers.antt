use Rattle.base.specs.If.{when◌then◌else◌}
use Rattle.base.specs.Table.{find}
use Rattle.batch.specs.Record.{value_in}
use Rattle.crossing.specs.Answers.{carried, answer_numbers}
use Rattle.crossing.proofs.answers.AnswerNumbersFromAnswer.from.Goals as goal

pub returns-in-Done : goal.returns-in-Done
unfolding answer_numbers carried value_in find when◌then◌else◌
returns-in-Done c = rw (c.tallied.ensures, c.with_place.ensures, c.in-Done.is)

pub returns-in-Nok : goal.returns-in-Nok
unfolding answer_numbers carried value_in find when◌then◌else◌
returns-in-Nok c = rw (c.tallied-in-Nok.ensures, c.bare.ensures, c.in-Nok.is)

pub returns-in-TooLong : goal.returns-in-TooLong
unfolding answer_numbers carried value_in find when◌then◌else◌
returns-in-TooLong c = rw (c.bare-in-TooLong.ensures, c.in-TooLong.is)

pub returns-in-BadStart : goal.returns-in-BadStart
unfolding answer_numbers carried value_in find when◌then◌else◌
returns-in-BadStart c = rw (c.bare-in-BadStart.ensures, c.in-BadStart.is)

pub returns-in-BadText : goal.returns-in-BadText
unfolding answer_numbers carried value_in find when◌then◌else◌
returns-in-BadText c = rw (c.at_spot.ensures, c.in-BadText.is)

pub returns-in-NotAscii : goal.returns-in-NotAscii
unfolding answer_numbers carried value_in find when◌then◌else◌
returns-in-NotAscii c = rw (c.tallied-in-NotAscii.ensures, c.at_spot-in-NotAscii.ensures, c.in-NotAscii.is)

pub returns-in-Eof : goal.returns-in-Eof
unfolding answer_numbers carried value_in find when◌then◌else◌
returns-in-Eof c = rw (c.tallied-in-Eof.ensures, c.at_spot-in-Eof.ensures, c.in-Eof.is)

pub returns-in-Unexpected : goal.returns-in-Unexpected
unfolding answer_numbers carried value_in find when◌then◌else◌
returns-in-Unexpected c = rw (c.tallied-in-Unexpected.ensures, c.at_spot-in-Unexpected.ensures, c.in-Unexpected.is)

pub returns-in-VerdictError : goal.returns-in-VerdictError
unfolding answer_numbers carried value_in find when◌then◌else◌
returns-in-VerdictError c = rw (c.tallied-in-VerdictError.ensures, c.at_spot-in-VerdictError.ensures, c.in-VerdictError.is)

pub returns-in-VerdictEof : goal.returns-in-VerdictEof
unfolding answer_numbers carried value_in find when◌then◌else◌
returns-in-VerdictEof c = rw (c.tallied-in-VerdictEof.ensures, c.at_spot-in-VerdictEof.ensures, c.in-VerdictEof.is)

pub returns-in-Full : goal.returns-in-Full
unfolding answer_numbers carried value_in find when◌then◌else◌
returns-in-Full c = rw (c.tallied-in-Full.ensures, c.at_spot-in-Full.ensures, c.in-Full.is)

pub returns-in-BadCall : goal.returns-in-BadCall
unfolding answer_numbers carried value_in find when◌then◌else◌
returns-in-BadCall c = rw (c.bare-in-BadCall.ensures, c.in-BadCall.is)

pub returns-in-Asking : goal.returns-in-Asking
unfolding answer_numbers carried value_in find when◌then◌else◌
returns-in-Asking c = rw (c.tallied-in-Asking.ensures, c.at_spot-in-Asking.ensures, c.in-Asking.is)

pub returns-in-Paused : goal.returns-in-Paused
unfolding answer_numbers carried value_in find when◌then◌else◌
returns-in-Paused c = rw (c.tallied-in-Paused.ensures, c.at_spot-in-Paused.ensures, c.in-Paused.is)

pub returns-in-Kept : goal.returns-in-Kept
unfolding answer_numbers carried value_in find when◌then◌else◌
returns-in-Kept c = rw (c.bare-in-Kept.ensures, c.in-Kept.is)
