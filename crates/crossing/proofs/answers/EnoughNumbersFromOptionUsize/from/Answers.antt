use Rattle.base.specs.If.{when◌then◌else◌}
use Rattle.base.specs.Table.{find}
use Rattle.batch.specs.Record.{value_in}
use Rattle.crossing.specs.Answers.{enough_numbers}
use Rattle.crossing.proofs.answers.EnoughNumbersFromOptionUsize.from.Goals as goal

pub returns-in-Some : goal.returns-in-Some
unfolding enough_numbers value_in find when◌then◌else◌
returns-in-Some c = rw c.in-Some.is

pub returns-in-None : goal.returns-in-None
unfolding enough_numbers value_in find when◌then◌else◌
returns-in-None c = rw c.in-None.is
