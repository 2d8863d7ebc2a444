-- What is promised of every list of openings, for an auditor to read: what its records are afterwards, and what the event buffer is. The
-- theorems are in proofs/, under the names that stand beside them here.
--
-- docs/SCOPE.md, 'A page's openings in one call'.
use Rattle.std.specs.Prelude.{ℕ, ◌+◌, ◌-◌, ◌*◌, ◌≤◌, ◌≡◌, true, false, List, [], ◌∷◌, ◌++◌, eqb, length, drop}
use Rattle.base.specs.If.{when◌then◌else◌, among}
use Rattle.base.specs.State.{full}
use Rattle.base.specs.Number.{bad_call}
use Rattle.events.specs.declared.Event.{Event}
use Rattle.events.specs.Words.{width, encode}
use Rattle.scan.specs.Scan.{run_events}
use Rattle.scan.specs.Call.{Begun, started, not_started, begin_of}
use Rattle.scan_theorems.specs.Counting.{counting_call_answers}
use Rattle.batch.specs.declared.Opening.{Opening}
use Rattle.batch.specs.Batch.{all_counting, batch, answered, record_of, words_of, batch_of}

-- ---- the records: `every_record_is_answered`

-- what was asked is as lent, and the answer is one of 0 to 7 and 10: a record neither asks nor pauses
pub record Answered (lent after : Opening) : Type 0 where
  pub start : after.start ≡ lent.start
  pub construct : after.construct ≡ lent.construct
  pub kind : after.kind ≡ lent.kind
  pub flags : after.flags ≡ lent.flags
  pub answer : among counting_call_answers after.answer ≡ true

-- one record after the other is answered, up to the first that is answered 10; those behind it are as lent
abbrev pub InOrder : List Opening → List Opening → Type 0
InOrder [] after = after ≡ []
InOrder (o ∷ os) [] = ⊥
InOrder (o ∷ os) (p ∷ ps) = Answered o p × (p.answer ≡ full → ps ≡ os) × ((p.answer ≡ full → ⊥) → InOrder os ps)

abbrev pub EveryRecord : Type 0
EveryRecord = (page : List ℕ) (os : List Opening) (words : List ℕ) → all_counting os ≡ true → InOrder os (batch_of page os words).openings

-- ---- a list that is refused: `a_refused_list_is_untouched`

abbrev pub RefusedList : Type 0
RefusedList = (page : List ℕ) (os : List Opening) (words : List ℕ) → all_counting os ≡ false → batch_of page os words ≡ batch (answered bad_call 0 0) os words

-- ---- the event buffer: `the_buffer_is_the_lists_events`

-- the events of a scan that was begun, in so many steps; none, where there is none
abbrev pub begun_events : List ℕ → ℕ → Begun → List Event
begun_events page steps (started s) = run_events page steps s
begun_events page steps (not_started a) = []

-- the events of a record's single call, with steps enough, over so many words
unfoldable pub opening_events : List ℕ → Opening → ℕ → List Event
opening_events page o words =
    begun_events page (8 * (length page - o.start + 1))
    (begin_of page 0 (length page) o.start o.construct o.kind o.flags words)

-- those of the records that are left, behind `used` events: of one after the other, up to the first that is answered 10
unfoldable pub list_events : List ℕ → ℕ → List Opening → List ℕ → List Event
list_events page used [] words = []
list_events page used (o ∷ os) words =
    let f = record_of page o used words in
    opening_events page o (length (drop (used * width) words))
    ++ (when eqb f.answer full then [] else list_events page (used + f.events) os (words_of page o used words))

-- the buffer has these events from its start on, as many as the list counts, and behind them stands what was lent
abbrev pub BufferIs : Type 0
BufferIs =
    (page : List ℕ) (os : List Opening) (words : List ℕ)
    → all_counting os ≡ true
    → let es = list_events page 0 os words in
    let b = batch_of page os words in
    (b.filled.events ≡ length es) × (length es * width ≤ length words) × (b.words ≡ encode es ++ drop (length es * width) words)
