use mathlib.Core.Path.{◌∙◌}
use Rattle.base.proofs.Tables.{not_found}
use Rattle.tokenizer.specs.Decision.{attribute_decision, attribute_states}
use Rattle.tokenizer.proofs.Tokenizer.attribute_state.Goals as goal

-- the state is no key of the table
pub returns-in_default : goal.returns-in_default
unfolding attribute_decision
returns-in_default c = let a = c.args in c.no_state.ensures ∙ not_found a.self.state (attribute_states a.self a.b) _ c.in_default.in_default-own.rest
