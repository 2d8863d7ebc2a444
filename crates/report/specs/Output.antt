-- A buffer on its way to standard output: it is written out, and begun again at its start, where so many bytes more do not fit.
use Rattle.std.specs.Prelude.{ℕ, ◌-◌, ◌*◌, ◌/◌, List, [], ◌∷◌, eqb, ltb, length}
use Rattle.base.specs.Byte.{line_feed, space}
use Rattle.base.specs.If.{when◌then◌else◌}
use Rattle.events.specs.declared.Event.{Event}
use Rattle.events.specs.Room.{held_in}
use Rattle.events.specs.Words.{events_in}
use Rattle.report.specs.Decimal.{decimal}
use Rattle.report.specs.Put.{Put, outcome, in_room, put_of}

-- where to go on
unfoldable pub free_place : ℕ → ℕ → ℕ → ℕ
free_place room used count = when ltb (room - in_room room used) count then 0 else in_room room used

-- as much as a number takes: 2^64 has 20 digits
abbrev pub number_room : ℕ
number_room = 20

-- what a field of so many bytes takes of a buffer with so much room
unfoldable pub field_room : ℕ → ℕ → ℕ
field_room room count =
    when eqb count 0 then 1
    else when ltb (room / 2) count then room
    else count * 2

-- more than an event takes
abbrev pub event_room : ℕ
event_room = 256

-- more than a line that can't be read takes, which is never repeated
abbrev pub bad_line_room : ℕ
bad_line_room = 256

-- `BadLine `
abbrev pub bad_line : List ℕ
bad_line = 66 ∷ 97 ∷ 100 ∷ 76 ∷ 105 ∷ 110 ∷ 101 ∷ space ∷ []

-- its number, and why, if that is known
abbrev pub bad_line_pieces : ℕ → List ℕ → List (List ℕ)
bad_line_pieces line why = bad_line ∷ decimal line ∷ why ∷ (line_feed ∷ []) ∷ []

-- ` bad lines`, and a line feed
abbrev pub bad_lines : List ℕ
bad_lines = space ∷ 98 ∷ 97 ∷ 100 ∷ space ∷ 108 ∷ 105 ∷ 110 ∷ 101 ∷ 115 ∷ line_feed ∷ []

-- how many there were, if any
unfoldable pub bad_lines_put : List ℕ → ℕ → ℕ → Put
bad_lines_put out used count =
    when eqb count 0 then outcome used out
    else put_of out (free_place (length out) used bad_line_room) (decimal count ∷ bad_lines ∷ [])

-- the events one after the other, each by its pieces
unfoldable pub put_each : (Event → List (List ℕ)) → List ℕ → ℕ → List Event → Put
put_each pieces out at [] = outcome at out
put_each pieces out at (e ∷ es) =
    let p = put_of out (free_place (length out) at event_room) (pieces e) in
    put_each pieces p.buffer p.place es

-- the first so many events, as far as there are words
abbrev pub first_events : List ℕ → ℕ → List Event
first_events words count = events_in words 0 (held_in count (length words))
