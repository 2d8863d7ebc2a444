use mathlib.Core.Path.{sym}
use mathlib.Core.List.{[], ◌∷◌}
use Rattle.base.proofs.Choice.{one_of, none_of}
use Rattle.scan.proofs.gliding.may_glide.Goals as goal

pub returns-then-inside_a_name : goal.returns-then-inside_a_name
returns-then-inside_a_name c = rw (← c.inside_a_name.ensures, c.if-inside_a_name.true)

pub returns-in-34 : goal.returns-in-34
returns-in-34 c = rw (← c.inside_a_name.ensures, c.if-inside_a_name.false) (sym (one_of (34 ∷ 39 ∷ 64 ∷ 70 ∷ []) c.args.name c.in-34.is))

pub returns-in_default : goal.returns-in_default
returns-in_default c = rw (← c.inside_a_name.ensures, c.if-inside_a_name.false) (sym (none_of (34 ∷ 39 ∷ 64 ∷ 70 ∷ []) c.args.name c.in_default.in_default-own.rest.1))
