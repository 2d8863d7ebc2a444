-- What is promised of where expressions close in a worker, for an auditor to read: as in a scan by itself, at the closing offset of the crate
-- `brace_theorems`, Braces.antt. The theorems are in proofs/Closing.antt, under the names that stand beside them here.
use Rattle.std.specs.Prelude.{ℕ, ◌%◌, ◌<◌, ◌≡◌, false, List, eqb}
use Rattle.base.specs.State as state
use Rattle.events.specs.declared.Event.{Event}
use Rattle.tokenizer.specs.Ranges.{expression, tag}
use Rattle.scan.specs.Answer.{Said}
use Rattle.scan_theorems.specs.Room.{NotFull}
use Rattle.brace_theorems.specs.Closing.{Expression, Tag}
use Rattle.worker.specs.Place.{state_of}
use Rattle.worker_theorems.specs.Calls.{collect, answer, place_at, events_of}
use Rattle.worker_theorems.specs.Demand3.{text_of}
use Rattle.worker_theorems.specs.Isolation.{History, late, Stays}

-- A page that names no verdict source is admitted to place i, calls that are fair to it as demand 3 asks have finished it, and it did not run
-- full; with room for 6(n+1) events in every place it does not (`room_in_a_place_is_enough`). What holds of the page, its start, the answer that
-- collecting it gives, and its events.
abbrev pub OfEveryCountingPage : ℕ → (List ℕ → ℕ → Said → List Event → Type 0) → Type 0
OfEveryCountingPage construct P =
    (h : History) (i : ℕ)
    → Stays h i
    → h.page.construct ≡ construct
    → eqb (h.page.flags % 2) 1 ≡ false
    → state_of (place_at i (late h)) < state.asking
    → NotFull (answer (collect i) (late h))
    → P (text_of h.bytes h.page) h.page.start (answer (collect i) (late h)) (events_of i (late h))

-- `a_place_closes_an_expression_by_the_rule`
abbrev pub PlacedExpressionsClose : Type 0
PlacedExpressionsClose = OfEveryCountingPage expression Expression

-- `a_place_closes_a_tags_expressions_by_the_rule`
abbrev pub PlacedTagsClose : Type 0
PlacedTagsClose = OfEveryCountingPage tag Tag
