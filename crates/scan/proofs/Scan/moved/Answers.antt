use Rattle.scan.specs.Gliding.{counted_on}
use Rattle.scan.proofs.Scan.moved.Goals as goal

pub returns : goal.returns
unfolding counted_on
returns c = rw (c.moved-tokenizer.ensures, c.count_steps-steps.ensures, c.step_bound.ensures)
