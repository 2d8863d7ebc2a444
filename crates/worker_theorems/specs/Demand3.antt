-- Demand 3, for an auditor to read: no page holds up another. Nothing here but the definitions that the contracts of the calls cite, the
-- definition of a single scan run by itself, and what is counted. The theorem is `no_page_holds_up_another`.
use Rattle.std.specs.Prelude.{ℕ, ◌+◌, ◌-◌, ◌*◌, ◌/◌, ◌<◌, ◌≡◌, ◌⊎◌, Bool, true, false, not, ◌&&◌, List, [], ◌∷◌, ◌++◌, eqb, length}
use Rattle.base.specs.If.{when◌then◌else◌}
use Rattle.base.specs.Number as number
use Rattle.base.specs.State as state
use Rattle.base.specs.declared.Verdict.{Verdict}
use Rattle.events.specs.declared.Event.{Event}
use Rattle.events.specs.Share.{share_of}
use Rattle.page.specs.Page.{page_of}
use Rattle.scan.specs.declared.Scan.{Scan}
use Rattle.scan.specs.Answer.{Said, said, answer_of}
use Rattle.scan.specs.Call.{job_of, fresh_scan}
use Rattle.scan.specs.Alone.{run_alone, events_alone}
use Rattle.worker.specs.declared.Place.{Place}
use Rattle.worker.specs.Ring.{places}
use Rattle.worker.specs.Place.{running, ended, state_of}
use Rattle.worker.specs.Worker.{start_of, page_in, lies_in, events_at}
use Rattle.worker_theorems.specs.Calls.{Page, Ask, admit, verdict, a_turn, collect, read_body, State, answer, next, after_calls, place_at, events_of}

-- ---- what is counted

abbrev pub is_refused : Said → Bool
is_refused a = eqb a.number number.bad_call

-- the verdict that a call gives to place i: none, unless it is kept
abbrev pub verdict_to : ℕ → Ask → Said → List Verdict
verdict_to i (admit bytes p) a = []
verdict_to i (verdict k v) a = when eqb a.number number.kept && eqb k i then v ∷ [] else []
verdict_to i (a_turn bytes lent) a = []
verdict_to i (collect k) a = []
verdict_to i (read_body bytes k scratch) a = []

abbrev pub verdicts_to : ℕ → List Ask → State → List Verdict
verdicts_to i [] s = []
verdicts_to i (x ∷ xs) s = verdict_to i x (answer x s) ++ verdicts_to i xs (next x s)

-- a turn that is not refused, while place i runs
abbrev pub turn_while : Place → Ask → Said → ℕ
turn_while p (admit bytes pg) a = 0
turn_while p (verdict k v) a = 0
turn_while p (a_turn bytes lent) a = when running p && not (is_refused a) then 1 else 0
turn_while p (collect k) a = 0
turn_while p (read_body bytes k scratch) a = 0

abbrev pub turns_while : ℕ → List Ask → State → ℕ
turns_while i [] s = 0
turns_while i (x ∷ xs) s = turn_while (place_at i s) x (answer x s) + turns_while i xs (next x s)

-- ---- what is supposed of the calls

-- a page that was admitted and has not ended
abbrev pub unfinished : Place → Bool
unfinished p = p.taken && not (ended p)

-- What a turn is lent, of which only a turn over a buffer of the worker's length is asked: any other is refused. The bytes of pages that
-- have ended may be others, and so may the rest of the event buffer; and other calls may be lent whatever there is.
pub record Lent (i : ℕ) (page bytes lent : List ℕ) (s : State) : Type 0 where
  -- every unfinished page lies inside the lent bytes
  pub inside : (k : ℕ) → k < places → unfinished (place_at k s) ≡ true → lies_in (place_at k s) (length bytes) ≡ true
  -- the page that is spoken of has the same bytes there
  pub same : unfinished (place_at i s) ≡ true → page_in (place_at i s) bytes ≡ page
  -- the events that it has written stand in the event buffer
  pub stand : events_at lent i s.worker ≡ events_at s.words i s.worker

abbrev pub lent_well : ℕ → List ℕ → Ask → State → Type 0
lent_well i page (admit bytes p) s = Unit {0}
lent_well i page (verdict k v) s = Unit {0}
lent_well i page (a_turn bytes lent) s = length lent ≡ s.worker.words → Lent i page bytes lent s
lent_well i page (collect k) s = Unit {0}
lent_well i page (read_body bytes k scratch) s = Unit {0}

-- the call does not collect the page at place i
abbrev pub leaves : ℕ → Ask → Said → Type 0
leaves i (admit bytes p) a = Unit {0}
leaves i (verdict k v) a = Unit {0}
leaves i (a_turn bytes lent) a = Unit {0}
leaves i (collect k) a = (not (is_refused a) && eqb k i) ≡ false
leaves i (read_body bytes k scratch) a = Unit {0}

-- so it is with each of the calls
abbrev pub Fair : ℕ → List ℕ → List Ask → State → Type 0
Fair i page [] s = Unit {0}
Fair i page (x ∷ xs) s = lent_well i page x s × leaves i x (answer x s) × Fair i page xs (next x s)

-- ---- the page scanned by itself

-- "A run over n bytes takes at most 8(n+1) steps"
abbrev pub bound : Page → ℕ
bound p = 8 * (p.long - p.start + 1)

abbrev pub text_of : List ℕ → Page → List ℕ
text_of bytes p = page_of bytes p.at p.long

abbrev pub first_scan : List ℕ → Page → ℕ → Scan
first_scan bytes p words = fresh_scan (text_of bytes p) (job_of p.construct p.kind p.flags p.long p.start words)

abbrev pub scan_alone : List ℕ → Page → List Verdict → ℕ → Scan
scan_alone bytes p vs words = run_alone (text_of bytes p) (bound p) vs (first_scan bytes p words)

abbrev pub list_alone : List ℕ → Page → List Verdict → ℕ → List Event
list_alone bytes p vs words = events_alone (text_of bytes p) (bound p) vs (first_scan bytes p words)

-- ---- the promise

-- b steps, q of them to a turn: how many turns, rounded up
abbrev pub turns_for : ℕ → ℕ → ℕ
turns_for b q = (b + (q - 1)) / q

-- of the page at place i, after n verdicts and t turns made while it ran; `alone` and `events` are what it comes to by itself
pub record Promise (q b i : ℕ) (alone : Scan) (events : List Event) (n t : ℕ) (s : State) : Type 0 where
  -- it is never lost
  pub there : (place_at i s).taken ≡ true
  -- while it runs, fewer turns were made since its admission than this, whatever the other places hold
  pub soon : running (place_at i s) ≡ true → t < places * (turns_for b q + n)
  -- where it does not run, it waits for a verdict or is finished
  pub rests : running (place_at i s) ≡ false → (state_of (place_at i s) ≡ state.asking) ⊎ (state_of (place_at i s) < state.asking)
  -- where it waits, it waits where the scan run by itself waits, with the same events
  pub waiting : state_of (place_at i s) ≡ state.asking → ((place_at i s).scan ≡ alone) × (events_of i s ≡ events)
  -- once it is finished, collecting it gives the answer of the scan run by itself, with its counts, and the events are that scan's
  pub finished : state_of (place_at i s) < state.asking → (answer (collect i) s ≡ answer_of alone) × (events_of i s ≡ events)

-- A worker is started with q steps to a turn, over an event buffer. After any calls a page is admitted to place i. After any further calls
-- that are fair to it, none of which collects it, the promise holds of it, beside the scan run by itself on the same page with the same
-- verdicts and room.
abbrev pub begun : ℕ → List ℕ → State
begun q events = record { worker = (start_of q (length events)).worker; words = events }

abbrev pub Demand3 : Type 0
Demand3 =
    (q : ℕ) (events : List ℕ) (before since : List Ask) (bytes : List ℕ) (p : Page) (i : ℕ)
    → let s₀ = after_calls before (begun q events) in
    let s₁ = next (admit bytes p) s₀ in
    let vs = verdicts_to i since s₁ in
    let words = share_of (length events) in
    (start_of q (length events)).answer.number ≡ number.started
    → answer (admit bytes p) s₀ ≡ said number.placed (i ∷ [])
    → Fair i (text_of bytes p) since s₁
    → Promise q (bound p) i (scan_alone bytes p vs words) (list_alone bytes p vs words) (length vs) (turns_while i since s₁) (after_calls since s₁)
