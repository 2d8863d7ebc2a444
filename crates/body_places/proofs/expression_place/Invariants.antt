use Prim.Native.Nat.{◌-◌, ◌≤◌}
use mathlib.Core.Path.{◌≡◌}
use Rattle.body_places.specs.Body.{places_of, cells_from, place_of, expression_places}
use Rattle.body_places.proofs.expression_place.Given as goal

-- the byte that is looked for is byte `more` of what is left of the body
abbrev pub invariant-loop-at : goal.invariant-loop-at
invariant-loop-at l =
    (l.left ≤ 2) × (l.drift ≤ 3) × (place_of (places_of (cells_from l.page l.left l.drift l.at (l.to - l.at))) l.more l.to ≡ place_of (expression_places l.page l.from l.to) l.r l.to)
