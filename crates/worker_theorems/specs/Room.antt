-- What a worker's start says of event room, for an auditor to read. docs/SCOPE.md, 'Event room': "The worker's start then says, for its
-- buffer, the longest page within the limit that cannot run full, or that there is none." The theorems are in proofs/Room.antt, under the
-- names that stand beside them here.
use Rattle.std.specs.Prelude.{ℕ, ◌+◌, ◌-◌, ◌*◌, ◌≤◌, ◌<◌, ◌≡◌, ◌⊎◌, true, List, [], ◌∷◌, length}
use Rattle.base.specs.Number as number
use Rattle.base.specs.Page.{page_limit}
use Rattle.events.specs.Share.{share_of}
use Rattle.events.specs.Words.{room_in}
use Rattle.room.specs.Room.{events_enough}
use Rattle.scan.specs.Answer.{said}
use Rattle.scan_theorems.specs.Room.{NotFull, SaysWords}
use Rattle.worker.specs.Ring.{places}
use Rattle.worker.specs.Worker.{start_of, page_in, lies_in}
use Rattle.worker_theorems.specs.Calls.{Ask, admit, verdict, a_turn, collect, read_body, State, answer, next, place_at}
use Rattle.worker_theorems.specs.Demand3.{unfinished, leaves, text_of}
use Rattle.worker_theorems.specs.Isolation.{History, early, admitted, late, Stays}

-- ---- what is supposed of the calls, which is less than demand 3 supposes

-- A turn whose lent bytes the page lies in has the page's own bytes there, of which only a turn over a buffer of the worker's length is
-- asked: any other is refused. The event buffer may hold anything, and so may all other bytes; and other calls may be lent whatever there
-- is.
abbrev pub same_bytes : ℕ → List ℕ → Ask → State → Type 0
same_bytes i page (admit bytes p) s = Unit {0}
same_bytes i page (verdict k v) s = Unit {0}
same_bytes i page (a_turn bytes lent) s =
    length lent ≡ s.worker.words → unfinished (place_at i s) ≡ true → lies_in (place_at i s) (length bytes) ≡ true → page_in (place_at i s) bytes ≡ page
same_bytes i page (collect k) s = Unit {0}
same_bytes i page (read_body bytes k scratch) s = Unit {0}

-- so it is with each of the calls, and none collects the page
abbrev pub Unchanged : ℕ → List ℕ → List Ask → State → Type 0
Unchanged i page [] s = Unit {0}
Unchanged i page (x ∷ xs) s = same_bytes i page x s × leaves i x (answer x s) × Unchanged i page xs (next x s)

-- a worker is started, after any calls a page is admitted to place i, and the calls since are such
pub record Remains (h : History) (i : ℕ) : Type 0 where
  pub starts : (start_of h.q (length h.events)).answer.number ≡ number.started
  pub placed : answer (admit h.bytes h.page) (early h) ≡ said number.placed (i ∷ [])
  pub unchanged : Unchanged i (text_of h.bytes h.page) h.since (admitted h)

-- `demand_3_supposes_more`: where demand 3 speaks of a page, so does this
abbrev pub StaysRemain : Type 0
StaysRemain = (h : History) (i : ℕ) → Stays h i → Remains h i

-- ---- no page runs full that has room

-- `room_in_a_place_is_enough`: with room in every place for 6(n+1) events, n from the page's start to its end, collecting the page never
-- answers 10, at whatever time
abbrev pub PlaceNeverFull : Type 0
PlaceNeverFull =
    (h : History) (i : ℕ) → Remains h i → events_enough (h.page.long - h.page.start) ≤ room_in (share_of (length h.events)) → NotFull (answer (collect i) (late h))

-- the start says that n bytes are the longest page, or that there is none
abbrev pub SaysLongest : ℕ → ℕ → ℕ → Type 0
SaysLongest q words n = (start_of q words).answer ≡ said number.started (n ∷ [])

abbrev pub SaysNone : ℕ → ℕ → Type 0
SaysNone q words = (start_of q words).answer ≡ said number.started []

-- `no_page_up_to_the_longest_runs_full`
abbrev pub LongestNeverFull : Type 0
LongestNeverFull = (h : History) (i n : ℕ) → Remains h i → SaysLongest h.q (length h.events) n → h.page.long ≤ n → NotFull (answer (collect i) (late h))

-- `sixteen_times_the_words_are_enough`: over a buffer of sixteen times the words that the call `words_enough` says for the page, or more
abbrev pub SharesNeverFull : Type 0
SharesNeverFull = (h : History) (i w : ℕ) → Remains h i → SaysWords h.page.long w → places * w ≤ length h.events → NotFull (answer (collect i) (late h))

-- ---- the longest page is the longest

pub record IsLongest (words n : ℕ) : Type 0 where
  -- it is within the limit, and the formula covers it
  pub short : n ≤ page_limit
  pub covered : events_enough n ≤ room_in (share_of words)
  -- the next is over the limit, or the formula does not cover it
  pub last : (page_limit < n + 1) ⊎ (room_in (share_of words) < events_enough (n + 1))

-- `the_longest_is_the_longest`; and where there is none, the formula does not cover the empty page
pub record LongestSaid : Type 0 where
  pub one : (q words n : ℕ) → SaysLongest q words n → IsLongest words n
  pub none : (q words : ℕ) → SaysNone q words → room_in (share_of words) < events_enough 0
