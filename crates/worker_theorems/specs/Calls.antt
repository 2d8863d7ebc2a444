-- The calls on a worker, one after the other. Each is lent its own bytes, and a turn its own event buffer.
use Rattle.std.specs.Prelude.{ℕ, List, [], ◌∷◌, eqb}
use Rattle.base.specs.If.{when◌then◌else◌}
use Rattle.base.specs.Number as number
use Rattle.base.specs.declared.Verdict.{Verdict}
use Rattle.events.specs.declared.Event.{Event}
use Rattle.events.specs.Words.{events_in}
use Rattle.scan.specs.Answer.{Said}
use Rattle.worker.specs.declared.Place.{Place}
use Rattle.worker.specs.declared.Worker.{Worker}
use Rattle.worker.specs.Place.{place_in}
use Rattle.worker.specs.Reply.{Left}
use Rattle.worker.specs.Worker.{admit_of, verdict_of, collect_call, turn_of, body_call, events_at}

-- a page: where it begins in the lent bytes, its length, where its scan starts, construct, kind and flags
pub record Page : Type 0 where
  pub at : ℕ
  pub long : ℕ
  pub start : ℕ
  pub construct : ℕ
  pub kind : ℕ
  pub flags : ℕ

pub data Ask : Type 0 where
  -- over lent bytes
  admit : List ℕ → Page → Ask
  verdict : ℕ → Verdict → Ask
  -- over lent bytes and a lent event buffer
  a_turn : List ℕ → List ℕ → Ask
  collect : ℕ → Ask
  -- over lent bytes, with a lent scratch
  read_body : List ℕ → ℕ → List ℕ → Ask

-- what a call leaves
abbrev pub call_of : Ask → Worker → Left
call_of (admit bytes p) w = admit_of bytes p.at p.long p.start p.construct p.kind p.flags w
call_of (verdict i v) w = verdict_of i v w
call_of (a_turn bytes lent) w = turn_of bytes w lent
call_of (collect i) w = collect_call i w
call_of (read_body bytes i scratch) w = body_call bytes i w scratch

-- the memory that it is lent to write to
abbrev pub lent_to : Ask → List ℕ
lent_to (admit bytes p) = []
lent_to (verdict i v) = []
lent_to (a_turn bytes lent) = lent
lent_to (collect i) = []
lent_to (read_body bytes i scratch) = scratch

-- ---- calls in a row

-- the worker as the last call left it, and the event buffer as the last turn left it that served a place
pub record State : Type 0 where
  pub worker : Worker
  pub words : List ℕ

abbrev pub answer : Ask → State → Said
answer x s = (call_of x s.worker).answer

abbrev pub words_after : Ask → Left → List ℕ → List ℕ
words_after (admit bytes p) l words = words
words_after (verdict i v) l words = words
words_after (a_turn bytes lent) l words = when eqb l.answer.number number.served then l.memory else words
words_after (collect i) l words = words
words_after (read_body bytes i scratch) l words = words

-- the next call gets the worker that this one gave back
abbrev pub next : Ask → State → State
next x s = record { worker = (call_of x s.worker).worker; words = words_after x (call_of x s.worker) s.words }

abbrev pub after_calls : List Ask → State → State
after_calls [] s = s
after_calls (x ∷ xs) s = after_calls xs (next x s)

abbrev pub place_at : ℕ → State → Place
place_at i s = place_in s.worker.places i

-- the events of the page at place i: what `Worker::events` hands out of the buffer, read
abbrev pub events_of : ℕ → State → List Event
events_of i s = events_in (events_at s.words i s.worker) 0 (place_at i s).scan.used
