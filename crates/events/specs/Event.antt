-- The events of a step, as a list: the Rust's `events` vector. docs/SCOPE.md, 'The answer table', and docs/DECISIONS.md, 22. Each carries
-- the line and the column of its offset (docs/SCOPE.md, 'Line and column'), and how far it stands inside a tab ('Tabs').
use Rattle.std.specs.Prelude.{ℕ, Bool, true, false, List, [], ◌∷◌}
use Rattle.base.specs.declared.InTab.{InTab}
use Rattle.base.specs.declared.Mark.{Mark}
use Rattle.base.specs.declared.Mark.TheVariants.{Enter, Exit, Leave}
use Rattle.events.specs.declared.Point.{Point}
use Rattle.events.specs.declared.Event.{Event}

abbrev pub point : ℕ → ℕ → ℕ → InTab → Point
point offset line column tab = record { offset = offset; line = line; column = column; tab = tab }

abbrev pub event : ℕ → Bool → Point → Event
event kind exit p = record { kind = kind; exit = exit; offset = p.offset; line = p.line; column = p.column; tab = p.tab }

-- where a mark of a step stands: `here` is the step's place, and `past` one byte past it, where `Leave` is an exit
abbrev pub point_of : Point → Point → Mark → Point
point_of here past (Enter kind) = here
point_of here past (Exit kind) = here
point_of here past (Leave kind) = past

abbrev pub event_at : Point → Point → Mark → Event
event_at here past (Enter kind) = event kind false here
event_at here past (Exit kind) = event kind true here
event_at here past (Leave kind) = event kind true past

abbrev pub events_at : Point → Point → List Mark → List Event
events_at here past [] = []
events_at here past (mark ∷ marks) = event_at here past mark ∷ events_at here past marks
