-- Isolation, for an auditor to read: what becomes of a page depends on the page, the verdicts given to it and the room it has, and on
-- nothing else. The theorem is `pages_are_isolated`.
--
-- docs/SCOPE.md, 'The worker': "Only the place number, answer 11, and how many worker turns pass may depend on other pages."
use Rattle.std.specs.Prelude.{ℕ, ◌<◌, ◌≡◌, List, [], ◌∷◌, length}
use Rattle.base.specs.Number as number
use Rattle.base.specs.State as state
use Rattle.base.specs.declared.Verdict.{Verdict}
use Rattle.events.specs.Share.{share_of}
use Rattle.scan.specs.Answer.{said}
use Rattle.worker.specs.Place.{state_of}
use Rattle.worker.specs.Worker.{start_of}
use Rattle.worker_theorems.specs.Calls.{Page, Ask, admit, collect, State, answer, next, after_calls, place_at, events_of}
use Rattle.worker_theorems.specs.Demand3.{begun, text_of, verdicts_to, Fair}

-- a worker's history: how it was started, the calls before a page is admitted, the page with the bytes lent to its admission, and the
-- calls since
pub record History : Type 0 where
  pub q : ℕ
  pub events : List ℕ
  pub before : List Ask
  pub bytes : List ℕ
  pub page : Page
  pub since : List Ask

-- before the admission, after it, and at the end
abbrev pub early : History → State
early h = after_calls h.before (begun h.q h.events)

abbrev pub admitted : History → State
admitted h = next (admit h.bytes h.page) (early h)

abbrev pub late : History → State
late h = after_calls h.since (admitted h)

abbrev pub heard : History → ℕ → List Verdict
heard h i = verdicts_to i h.since (admitted h)

-- the page is admitted to place i, and not collected
pub record Stays (h : History) (i : ℕ) : Type 0 where
  pub starts : (start_of h.q (length h.events)).answer.number ≡ number.started
  pub placed : answer (admit h.bytes h.page) (early h) ≡ said number.placed (i ∷ [])
  pub fair : Fair i (text_of h.bytes h.page) h.since (admitted h)

-- two histories agree on one page, at places i and j: its text and numbers, its verdicts, and its room
pub record Agree (h : History) (i : ℕ) (k : History) (j : ℕ) : Type 0 where
  pub text : text_of h.bytes h.page ≡ text_of k.bytes k.page
  pub long : h.page.long ≡ k.page.long
  pub start : h.page.start ≡ k.page.start
  pub construct : h.page.construct ≡ k.page.construct
  pub kind : h.page.kind ≡ k.page.kind
  pub flags : h.page.flags ≡ k.page.flags
  pub verdicts : heard h i ≡ heard k j
  pub room : share_of (length h.events) ≡ share_of (length k.events)

-- Then they agree on what becomes of it: where both have finished it, on the answer that collecting it gives, with its counts of events
-- and steps, and on its list of events; where both wait for a verdict, on the whole scan and the list. The place, the size of a turn, the
-- rest of the bytes, all that the event buffer held or holds besides, and whatever else was called may differ.
abbrev pub Isolation : Type 0
Isolation =
    (h k : History) (i j : ℕ) → Stays h i → Stays k j → Agree h i k j
    → (state_of (place_at i (late h)) < state.asking → state_of (place_at j (late k)) < state.asking
    → (answer (collect i) (late h) ≡ answer (collect j) (late k)) × (events_of i (late h) ≡ events_of j (late k)))
    × (state_of (place_at i (late h)) ≡ state.asking → state_of (place_at j (late k)) ≡ state.asking
    → ((place_at i (late h)).scan ≡ (place_at j (late k)).scan) × (events_of i (late h) ≡ events_of j (late k)))
