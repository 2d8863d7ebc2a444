use Rattle.crossing.specs.Answers.{answer_numbers}
use Rattle.crossing.proofs.Bodies.{no_body_of}
use Rattle.crossing.proofs.answers.reply_body_numbers.Goals as goal

pub returns-in_default : goal.returns-in_default
unfolding answer_numbers
returns-in_default c = rw (c.bodiless.ensures, c.from.ensures) (no_body_of c.args.reply c.args.kind c.in_default.not-InPage c.in_default.not-InScratch)
