-- A read that failed leaves the unused bytes where they were moved.
use Rattle.std.proofs.Common.{arith}
use Rattle.std.proofs.lemmas.Grind.{common_steps}
use Rattle.std.proofs.lemmas.Result.{MatchResult-from_err}
use Rattle.text.proofs.input.fill.Goals as goal

pub returns-in_err-count : goal.returns-in_err-count
returns-in_err-count g c = MatchResult-from_err c.from_residual.result _ _ c.from_residual.ensures.0 (λ _. grind (arith, common_steps))
