use mathlib.Core.Path.{◌∙◌}
use Rattle.base.specs.If.{when◌then◌else◌}
use Rattle.base.specs.Table.{find}
use Rattle.base.proofs.Tables.{not_found}
use Rattle.tokenizer.specs.Decision.{tag_decision, tag_states}
use Rattle.tokenizer.proofs.Tokenizer.tag_state.Goals as goal

pub returns-in-38 : goal.returns-in-38
unfolding tag_decision find when◌then◌else◌
returns-in-38 c = rw c.in-38.is c.tag_start.ensures

pub returns-in-56 : goal.returns-in-56
unfolding tag_decision find when◌then◌else◌
returns-in-56 c = rw c.in-56.is c.start_after.ensures

pub returns-in-41 : goal.returns-in-41
unfolding tag_decision find when◌then◌else◌
returns-in-41 c = rw c.in-41.is c.name_before.ensures

pub returns-in-42 : goal.returns-in-42
unfolding tag_decision find when◌then◌else◌
returns-in-42 c = rw c.in-42.is c.closing_tag_name_before.ensures

pub returns-in-57 : goal.returns-in-57
unfolding tag_decision find when◌then◌else◌
returns-in-57 c = rw c.in-57.is c.tag_end.ensures

pub returns-in-58 : goal.returns-in-58
unfolding tag_decision find when◌then◌else◌
returns-in-58 c = rw c.in-58.is c.primary_name.ensures

pub returns-in-43 : goal.returns-in-43
unfolding tag_decision find when◌then◌else◌
returns-in-43 c = rw c.in-43.is c.primary_name_after.ensures

pub returns-in-44 : goal.returns-in-44
unfolding tag_decision find when◌then◌else◌
returns-in-44 c = rw c.in-44.is c.member_name_before.ensures

pub returns-in-59 : goal.returns-in-59
unfolding tag_decision find when◌then◌else◌
returns-in-59 c = rw c.in-59.is c.member_name.ensures

pub returns-in-45 : goal.returns-in-45
unfolding tag_decision find when◌then◌else◌
returns-in-45 c = rw c.in-45.is c.member_name_after.ensures

pub returns-in-46 : goal.returns-in-46
unfolding tag_decision find when◌then◌else◌
returns-in-46 c = rw c.in-46.is c.local_name_before.ensures

pub returns-in-60 : goal.returns-in-60
unfolding tag_decision find when◌then◌else◌
returns-in-60 c = rw c.in-60.is c.local_name.ensures

pub returns-in-47 : goal.returns-in-47
unfolding tag_decision find when◌then◌else◌
returns-in-47 c = rw c.in-47.is c.local_name_after.ensures

pub returns-in-49 : goal.returns-in-49
unfolding tag_decision find when◌then◌else◌
returns-in-49 c = rw c.in-49.is c.self_closing.ensures

pub returns-in-63 : goal.returns-in-63
unfolding tag_decision find when◌then◌else◌
returns-in-63 c = rw c.in-63.is c.es_whitespace_start.ensures

pub returns-in-64 : goal.returns-in-64
unfolding tag_decision find when◌then◌else◌
returns-in-64 c = rw c.in-64.is c.es_whitespace_inside.ensures

pub returns-in-65 : goal.returns-in-65
unfolding tag_decision find when◌then◌else◌
returns-in-65 c = rw c.in-65.is c.es_whitespace_eol_after.ensures

pub returns-in-66 : goal.returns-in-66
unfolding tag_decision find when◌then◌else◌
returns-in-66 c = rw c.in-66.is c.es_whitespace_start_retried.ensures

pub returns-in-67 : goal.returns-in-67
unfolding tag_decision find when◌then◌else◌
returns-in-67 c = rw c.in-67.is c.es_whitespace_inside_retried.ensures

pub returns-in_default : goal.returns-in_default
unfolding tag_decision find when◌then◌else◌
returns-in_default c = let a = c.args in c.attribute_state.ensures ∙ not_found a.self.state (tag_states a.self a.b) _ c.in_default.in_default-own.rest
