-- The marks of a step one by one. No promise to a user of the library cites these.
use Rattle.std.specs.Prelude.{ℕ, Option}
use Rattle.std.specs.List.{slice_get}
use Rattle.base.specs.Decide.{list_of}
use Rattle.base.specs.declared.Mark.{Mark}
use Rattle.base.specs.declared.Marks.{Marks}

-- mark i of a step, where it has so many
abbrev pub mark_in : Marks → ℕ → Option Mark
mark_in marks i = slice_get (list_of marks) i
