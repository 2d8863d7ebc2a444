-- What is promised of the events of every scan, for an auditor to read. docs/SCOPE.md, 'The answer table': "Events of earlier steps stay;
-- everything beyond the count is as lent."
use Rattle.std.specs.Prelude.{ℕ, ◌+◌, ◌*◌, ◌≤◌, ◌≡◌, List, [], ◌∷◌, ◌++◌, length, drop}
use Rattle.base.specs.If.{when◌then◌else◌}
use Rattle.base.specs.declared.Verdict.{Verdict}
use Rattle.events.specs.declared.Event.{Event}
use Rattle.events.specs.Words.{width, encode, events_in}
use Rattle.scan.specs.declared.Scan.{Scan}
use Rattle.scan.specs.Scan.{run_scan, run_events}
use Rattle.scan.specs.Call.{Left, started, begin_of, runnable, run_of, give_of}

-- ---- calls

pub data Call : Type 0 where
  -- a run over a page, with an allowance
  run : List ℕ → ℕ → Call
  -- a verdict
  give : Verdict → Call

-- a scan and its event words, as a call leaves them
abbrev pub call_of : Call → Scan → List ℕ → Left
call_of (run page k) s words = run_of page k s words
call_of (give v) s words = record { scan = (give_of s v).scan; answer = (give_of s v).answer; words = words }

abbrev pub scan_after : List Call → Scan → List ℕ → Scan
scan_after [] s words = s
scan_after (c ∷ cs) s words = scan_after cs (call_of c s words).scan (call_of c s words).words

abbrev pub words_after : List Call → Scan → List ℕ → List ℕ
words_after [] s words = words
words_after (c ∷ cs) s words = words_after cs (call_of c s words).scan (call_of c s words).words

-- ---- the list and the words

-- the words hold these events, as many as the scan counts, and behind them stands what was lent
pub record Holds (lent : List ℕ) (s : Scan) (words : List ℕ) (events : List Event) : Type 0 where
  pub count : s.used ≡ length events
  pub hold : words ≡ encode events ++ drop (length events * width) lent
  pub fits : length events * width ≤ length lent

-- the events of a call: none, where it is refused
abbrev pub call_events : Call → Scan → List ℕ → List Event
call_events (run page k) s words = when runnable s (length page) (length words) k then run_events page k s else []
call_events (give v) s words = []

-- the events of calls, in order: those of the earlier ones stay in front
abbrev pub events_after : List Call → Scan → List ℕ → List Event
events_after [] s words = []
events_after (c ∷ cs) s words = call_events c s words ++ events_after cs (call_of c s words).scan (call_of c s words).words

-- A scan begins with lent words; after any calls, each lent what the one before it left there, whatever they answer, the words are the
-- calls' events, followed by what was lent.
abbrev pub EventsStay : Type 0
EventsStay =
    (bytes : List ℕ) (at n start construct kind flags : ℕ) (lent : List ℕ) (s : Scan)
    → begin_of bytes at n start construct kind flags (length lent) ≡ started s
    → (calls : List Call)
    → Holds lent (scan_after calls s lent) (words_after calls s lent) (events_after calls s lent)

-- a run cut in two has the events of the first part, then those of the second
abbrev pub EventsJoin : Type 0
EventsJoin = (page : List ℕ) (j k : ℕ) (s : Scan) → run_events page (j + k) s ≡ run_events page j s ++ run_events page k (run_scan page j s)

-- the count is the list's length
abbrev pub EventsCount : Type 0
EventsCount = (page : List ℕ) (k : ℕ) (s : Scan) → (run_scan page k s).used ≡ s.used + length (run_events page k s)

-- what is read from words that hold events is those events
abbrev pub EventsRead : Type 0
EventsRead = (lent : List ℕ) (s : Scan) (words : List ℕ) (events : List Event) → Holds lent s words events → events_in words 0 s.used ≡ events
