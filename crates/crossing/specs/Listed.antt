-- What numbers stand for, where each of them stands for something.
use Rattle.std.specs.Prelude.{Bool, Result, Ok, Err}
use Rattle.base.specs.If.{when◌then◌else◌}
use Rattle.crossing.specs.declared.Unlisted.{Unlisted}

abbrev pub unlisted : Unlisted
unlisted = record {}

-- x, if it is listed
abbrev pub if_listed : {A : Type 0} → Bool → A → Result A Unlisted
if_listed listed x = when listed then Ok x else Err unlisted
