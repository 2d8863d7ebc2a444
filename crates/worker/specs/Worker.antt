-- The worker's calls: what each leaves of the worker, what it answers, and what it writes.
--
-- docs/SCOPE.md, 'The worker': "Sixteen places, lowest free place first, a turn size q of 1 to 4096 fixed at the start (else 12). The event
-- buffer is cut in sixteen equal shares" (docs/SCOPE.md, 'Line and column', says how many events a share holds). "A turn goes to the next
-- running place after the one last served, round the ring; a fresh worker begins at 0. It runs q steps, or fewer if the page asks or
-- finishes. A verdict call only keeps the verdict; applying it is the first step of that place's next turn. No running place: the answer
-- is Idle, nothing changes. A finished page keeps its place until collected, which gives its answer; a freed place is used again."
use Rattle.std.specs.Prelude.{ℕ, ◌-◌, Bool, true, ◌&&◌, List, [], ◌∷◌, leb, ltb, eqb, length, replicate}
use Rattle.base.specs.If.{when◌then◌else◌}
use Rattle.base.specs.Number as number
use Rattle.base.specs.declared.Verdict.{Verdict}
use Rattle.events.specs.Share.{share_of, share_start, share_in, with_share}
use Rattle.events.specs.Span.{front_of}
use Rattle.page.specs.Page.{lies_inside, page_of}
use Rattle.scan.specs.Answer.{said, answer_of}
use Rattle.scan.specs.Call as single
use Rattle.scan.specs.Call.{Begun, started, not_started, numbers_listed, give_of, begin_of, run_of}
use Rattle.room.specs.Room.{longest_in}
use Rattle.mdx_collect.specs.Collect.{Collected, collect_of}
use Rattle.worker.specs.declared.Place.{Place}
use Rattle.worker.specs.declared.Worker.{Worker}
use Rattle.worker.specs.Ring.{places}
use Rattle.worker.specs.Place.{place_of, free_place, place_in, ended, place_in_range, next_in, lowest_in, stored, worker_in_range, holds}
use Rattle.worker.specs.Reply.{Left, left, refusing}

-- ---- a worker started: "The worker's start then says, for its buffer, the longest page within the limit that cannot run full, or that there
-- is none" (docs/SCOPE.md, 'Event room')

-- the last place counts as served, so that the ring begins at 0
abbrev pub fresh_of : ℕ → ℕ → Worker
fresh_of q words = record { places = replicate places free_place; last = places - 1; q = q; words = words }

unfoldable pub start_of : ℕ → ℕ → Left
start_of q words =
    when worker_in_range (fresh_of q words) then left (fresh_of q words) (said number.started (longest_in words)) []
    else refusing (fresh_of q words) []

-- ---- admission

-- the new scan at place k, or why there is none
abbrev pub placed_by : Begun → ℕ → ℕ → Worker → Left
placed_by (started s) k at w = left (stored w k (place_of true at s) w.last) (said number.placed (k ∷ [])) []
placed_by (not_started answer) k at w = left w answer []

-- "Admission checks 12, 11, 2, 3, 4 in that order."
unfoldable pub admit_of : List ℕ → ℕ → ℕ → ℕ → ℕ → ℕ → ℕ → Worker → Left
admit_of bytes at n start construct kind flags w =
    when numbers_listed construct kind flags && worker_in_range w then
    (when leb places (lowest_in w.places) then left w (said number.no_place []) []
    else placed_by (begin_of bytes at n start construct kind flags (share_of w.words)) (lowest_in w.places) at w)
    else refusing w []

-- ---- a verdict

-- the place with what its scan makes of the verdict: a scan that keeps none is as it was
abbrev pub given_by : single.Left → ℕ → Worker → Left
given_by r i w = left (stored w i (place_of true (place_in w.places i).at r.scan) w.last) r.answer []

unfoldable pub verdict_of : ℕ → Verdict → Worker → Left
verdict_of i v w = when holds i w then given_by (give_of (place_in w.places i).scan v) i w else refusing w []

-- ---- collecting

-- the answer of a finished page, whose place is free again
unfoldable pub collect_call : ℕ → Worker → Left
collect_call i w =
    when holds i w && ended (place_in w.places i) then left (stored w i free_place w.last) (answer_of (place_in w.places i).scan) []
    else refusing w []

-- ---- a turn

-- the page of a place
abbrev pub page_in : Place → List ℕ → List ℕ
page_in p bytes = page_of bytes p.at p.scan.tokenizer.job.length

abbrev pub lies_in : Place → ℕ → Bool
lies_in p lent = lies_inside lent p.at p.scan.tokenizer.job.length

-- the run of place k: the single scan's own, over its page and its share of the events
abbrev pub run_at : ℕ → List ℕ → Worker → List ℕ → single.Left
run_at k bytes w events = run_of (page_in (place_in w.places k) bytes) w.q (place_in w.places k).scan (share_in (share_of w.words) k events)

abbrev pub served_by : single.Left → ℕ → Worker → List ℕ → Left
served_by r k w events =
    left (stored w k (place_of true (place_in w.places k).at r.scan) k) (said number.served (k ∷ [])) (with_share events (share_of w.words) k r.words)

unfoldable pub served_at : ℕ → List ℕ → Worker → List ℕ → Left
served_at k bytes w events = served_by (run_at k bytes w events) k w events

-- its page lies inside so many lent bytes, and its scan is in range
abbrev pub ready : Place → ℕ → ℕ → Bool
ready p lent n = lies_in p lent && place_in_range n p

unfoldable pub turn_at : ℕ → List ℕ → Worker → List ℕ → Left
turn_at k bytes w events =
    when leb places k then left w (said number.idle []) events
    else when ready (place_in w.places k) (length bytes) (share_of w.words) then served_at k bytes w events
    else refusing w events

-- a 12 changes nothing, and does not move the ring
unfoldable pub turn_of : List ℕ → Worker → List ℕ → Left
turn_of bytes w events =
    when eqb (length events) w.words && worker_in_range w then turn_at (next_in w.places w.last) bytes w events
    else refusing w events

-- ---- the body of a place

-- place i has a page, which lies inside so many lent bytes
unfoldable pub holds_page : ℕ → ℕ → Worker → Bool
holds_page i lent w = holds i w && lies_in (place_in w.places i) lent

abbrev pub read_by : Collected → Worker → Left
read_by c w = left w c.answer c.scratch

-- the single scan's own answer about its body; the worker stays as it is
unfoldable pub body_call : List ℕ → ℕ → Worker → List ℕ → Left
body_call bytes i w scratch =
    when holds_page i (length bytes) w then read_by (collect_of (page_in (place_in w.places i) bytes) (place_in w.places i).scan scratch) w
    else refusing w scratch

-- ---- what a place has in lent memory

-- the page of place i; nothing, where it has none
unfoldable pub page_at : List ℕ → ℕ → Worker → List ℕ
page_at bytes i w = when holds_page i (length bytes) w then page_in (place_in w.places i) bytes else []

-- where the share of place i begins in the event buffer; 0, where there is no such place
unfoldable pub start_at : ℕ → Worker → ℕ
start_at i w = when ltb i places then share_start (share_of w.words) i else 0

-- the share of place i; nothing, where there is no such place, or of a buffer of another length
unfoldable pub share_at : List ℕ → ℕ → Worker → List ℕ
share_at events i w = when ltb i places && eqb (length events) w.words then share_in (share_of w.words) i events else []

-- the words of the events that the page at place i has written; nothing, where it has none
unfoldable pub events_at : List ℕ → ℕ → Worker → List ℕ
events_at events i w = when holds i w then front_of (share_at events i w) (place_in w.places i).scan.used else []
