use Rattle.crossing.specs.Answers.{answer_numbers}
use Rattle.crossing.proofs.Bodies.{longest_numbers}
use Rattle.crossing.proofs.workers.StartedNumbersFromCalled.from.Goals as goal

pub returns : goal.returns
unfolding answer_numbers
returns c =
    let longest = longest_numbers c.longest_in-longest.result in
    rw (c.from.ensures, c.from-2.ensures, c.unwrap_or.ensures, c.from-3.ensures, c.is_some.ensures, ← c.longest_in-longest.ensures, longest.0, longest.1)
