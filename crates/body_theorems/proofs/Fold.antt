-- Events behind others are collected on top of them.
use Prim.Native.Nat.{ℕ}
use mathlib.Core.Path.{◌≡◌, refl}
use mathlib.Core.List.{List, [], ◌∷◌, ◌++◌}
use Rattle.events.specs.declared.Event.{Event}
use Rattle.body_theorems.specs.Events.{Runs, collect_one, collect_on}

pub collect_append : (page : List ℕ) (r : Runs) (a b : List Event) → collect_on page r (a ++ b) ≡ collect_on page (collect_on page r a) b
collect_append page r [] b = refl
collect_append page r (e ∷ a) b = collect_append page (collect_one page r e) a b
