-- What an answer tells of the numbers that were asked about.
use mathlib.Core.Path.{◌≡◌, refl}
use mathlib.Core.Bool.{Bool, true, false}
use Rattle.std.specs.Prelude.{Ok, Err}
use Rattle.base.specs.If.{when◌then◌else◌}
use Rattle.crossing.specs.declared.Unlisted.{Unlisted}
use Rattle.crossing.specs.Listed.{if_listed}

pub listed_is : {A : Type 0} (b : Bool) (x y : A) → Ok x ≡ if_listed b y → (b ≡ true) × (x ≡ y)
unfolding when◌then◌else◌
listed_is true x y e = (refl, cc)
listed_is false x y e = absurd cc

pub unlisted_is : {A : Type 0} (b : Bool) (y : A) (e : Unlisted) → Err e ≡ if_listed b y → b ≡ false
unfolding when◌then◌else◌
unlisted_is true y e h = absurd cc
unlisted_is false y e h = refl
