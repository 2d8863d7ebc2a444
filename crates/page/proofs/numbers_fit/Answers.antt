-- The two tests are the definition's first.
use Rattle.base.proofs.Choice.{picks}
use Rattle.page.proofs.numbers_fit.Goals as goal

pub returns-then-length-gt-PAGE_LIMIT-clause-refused : goal.returns-then-length-gt-PAGE_LIMIT-clause-refused
returns-then-length-gt-PAGE_LIMIT-clause-refused c = λ bytes at. search picks depth 12

pub returns-then-length-start-clause-refused : goal.returns-then-length-start-clause-refused
returns-then-length-start-clause-refused c = λ bytes at. search picks depth 12
