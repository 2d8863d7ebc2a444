-- How much event room is enough. docs/SCOPE.md, 'Event room': "a scan over n bytes from its start writes at most 6(n+1) events, so never
-- answers 10 with that room". That it is enough is no part of the definitions here: crates `scan_theorems` and `worker_theorems` prove it.
use Rattle.std.specs.Prelude.{ℕ, ◌+◌, ◌-◌, ◌*◌, ◌/◌, List, [], ◌∷◌, Option, Some, None, leb, ltb}
use Rattle.base.specs.If.{when◌then◌else◌}
use Rattle.base.specs.Number as number
use Rattle.base.specs.Page.{page_limit}
use Rattle.events.specs.Words.{width, room_in}
use Rattle.events.specs.Share.{share_of}
use Rattle.scan.specs.Answer.{Said, said}

-- the events that a scan over n bytes has room enough with: six for each byte, and for the page's end
abbrev pub at_each_byte : ℕ
at_each_byte = 6

abbrev pub events_enough : ℕ → ℕ
events_enough n = at_each_byte * (n + 1)

-- ---- "a call giving the words for a page length, refusing lengths over the page limit with 2"

unfoldable pub enough_of : ℕ → Said
enough_of n = when leb n page_limit then said number.enough (events_enough n * width ∷ []) else said number.too_long []

-- what so many words say, or none. 40 is docs/NUMBERS.md's
abbrev pub enough_by : Option ℕ → Said
enough_by (Some n) = said 40 (n ∷ [])
enough_by None = said 2 []

-- ---- "The worker's start then says, for its buffer, the longest page within the limit that cannot run full, or that there is none."

-- the longest page for which a room of so many events is enough
unfoldable pub longest_of : ℕ → List ℕ
longest_of room =
    when ltb room (events_enough 0) then []
    else when leb (events_enough page_limit) room then page_limit ∷ []
    else (room / at_each_byte - 1) ∷ []

-- in every place of a worker over a buffer of so many words
abbrev pub longest_in : ℕ → List ℕ
longest_in words = longest_of (room_in (share_of words))

-- what a length says, or none
abbrev pub longest_by : Option ℕ → List ℕ
longest_by None = []
longest_by (Some n) = n ∷ []
