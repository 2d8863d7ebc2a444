use Rattle.base.proofs.Choice.{picks}
use Rattle.scan.proofs.gliding.plain_data.Goals as goal

pub returns-then-b-eq-TAB : goal.returns-then-b-eq-TAB
returns-then-b-eq-TAB c = search picks depth 12

pub returns-in-10 : goal.returns-in-10
returns-in-10 c = search picks depth 12

pub returns-in_default : goal.returns-in_default
returns-in_default c = search picks depth 12
