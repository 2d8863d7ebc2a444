-- Where expressions close, for an auditor to read. docs/SCOPE.md, 'Where an expression closes'. A scan without a verdict source ("counting"
-- there) that has room for its events and steps enough closes every expression at the closing offset of Braces.antt, which is said of the
-- page's bytes alone; and it answers 6 with where-number 19 exactly if an expression that it opens has none.
--
-- The theorems are `an_expression_closes_by_the_rule`, for an expression that stands alone, by its answer, and
-- `a_tag_closes_its_expressions_by_the_rule`, for those in a tag, by its events. Their proofs are in proofs/Closing.antt.
use Rattle.std.specs.Prelude.{ℕ, ◌+◌, ◌-◌, ◌*◌, ◌%◌, ◌≤◌, ◌≡◌, ◌↔◌, ◌⊎◌, Bool, true, false, not, ◌&&◌, List, [], ◌∷◌, ◌++◌, Ok, eqb, length, get_or}
use Rattle.std.proofs.Math.Option.{Option, none, some}
use Rattle.base.specs.Byte.{left_brace}
use Rattle.base.specs.If.{when◌then◌else◌, among}
use Rattle.base.specs.Kind as kind
use Rattle.base.specs.Number as number
use Rattle.base.specs.State as state
use Rattle.base.specs.declared.Verdict.{Verdict}
use Rattle.mdx_expression.specs.Expression.{in_expression}
use Rattle.page.specs.Page.{page_of, page_check}
use Rattle.page.specs.declared.line.Line.{Line}
use Rattle.events.specs.declared.Event.{Event}
use Rattle.events.specs.Words.{room_in, events_in}
use Rattle.room.specs.Room.{events_enough}
use Rattle.tokenizer.specs.Ranges.{expression, tag}
use Rattle.scan.specs.declared.Scan.{Scan}
use Rattle.scan.specs.Answer.{Said, answer_of}
use Rattle.scan.specs.Call.{numbers_listed, started, begin_of, whole_of}
use Rattle.scan.specs.Statement.{Call, scan_after, events_after}
use Rattle.scan.specs.Alone.{run_alone, events_alone}
use Rattle.brace_theorems.specs.Braces.{ClosingOffset, NeverCloses}
use Rattle.scan_theorems.specs.Lines.{OverPage}
use Rattle.scan_theorems.specs.Room.{NotFull}
use Rattle.scan_theorems.specs.Statement.{where_of}

-- ---- what a scan answers: its number, and values of it, of which the first is the end or the place

-- Done, with this end
abbrev pub DoneAt : ℕ → Said → Type 0
DoneAt end a = (a.number ≡ state.done) × (get_or a.values 0 0 ≡ end)

-- 6 with where-number 19: the page ended in an expression
abbrev pub EndsInExpression : Said → Type 0
EndsInExpression a = (a.number ≡ state.eof) × (where_of a ≡ in_expression)

-- at this place
abbrev pub EndsAt : ℕ → Said → Type 0
EndsAt place a = EndsInExpression a × (get_or a.values 0 0 ≡ place)

-- ---- an expression

-- The answer to a scan of the `{` at `brace`: Done with the end one past the closing offset exactly if there is one, 6 with where-number 19 at
-- the page's end exactly if there is none, and nothing else.
pub record ByTheRule (page : List ℕ) (brace : ℕ) (a : Said) : Type 0 where
  pub closed : (c : ℕ) → DoneAt (c + 1) a ↔ ClosingOffset page brace c
  pub unclosed : EndsAt (length page) a ↔ NeverCloses page brace
  pub nothing_else : ((c : ℕ) × DoneAt (c + 1) a) ⊎ EndsAt (length page) a

-- ---- the expressions that a list of events opens

-- the kinds of their events: of one that stands alone, as an attribute, and as an attribute's value
abbrev pub expression_kinds : List ℕ
expression_kinds =
    kind.flow_expression
    ∷ kind.text_expression
    ∷ kind.jsx_tag_attribute_expression
    ∷ kind.jsx_tag_attribute_value_expression
    ∷ []

-- an expression is opened by the enter of its event
abbrev pub opens : Event → Bool
opens e = not e.exit && among expression_kinds e.kind

-- the enter, and the exit, of a kind
abbrev pub enters : ℕ → Event → Bool
enters kind e = not e.exit && eqb e.kind kind

abbrev pub exits : ℕ → Event → Bool
exits kind e = e.exit && eqb e.kind kind

-- where the first such event of a list stands, if it has one
unfoldable pub first_at : (Event → Bool) → List Event → Option ℕ
first_at test [] = none
first_at test (e ∷ events) = when test e then some e.offset else first_at test events

-- the event e opens an expression in a list, and these events are behind it
pub record Opened (events : List Event) (e : Event) (behind : List Event) : Type 0 where
  pub before : List Event
  pub list : events ≡ before ++ (e ∷ behind)
  pub opens : opens e ≡ true

-- A `{` stands where it is opened, and there its marker's event stands too. Its exit, the first of its kind behind, stands one past the closing
-- offset exactly if there is one, and there is no such exit exactly if there is none.
pub record ClosesByTheRule (page : List ℕ) (e : Event) (behind : List Event) : Type 0 where
  pub brace : get_or page e.offset 0 ≡ left_brace
  pub marker : first_at (enters kind.expression_marker) behind ≡ some e.offset
  pub closed : (c : ℕ) → (first_at (exits e.kind) behind ≡ some (c + 1)) ↔ ClosingOffset page e.offset c
  pub unclosed : (first_at (exits e.kind) behind ≡ none) ↔ NeverCloses page e.offset

-- Each expression that the events open closes by the rule, and the answer is 6 with where-number 19 exactly if one that they open never closes.
pub record AllByTheRule (page : List ℕ) (a : Said) (events : List Event) : Type 0 where
  pub each : (e : Event) (behind : List Event) → Opened events e behind → ClosesByTheRule page e behind
  pub six : EndsInExpression a ↔ ((e : Event) × (behind : List Event) × Opened events e behind × NeverCloses page e.offset)

-- ---- of which scans

-- One call over a page that the check admits: a listed kind, flow or text; flags that name no verdict source; a buffer with room for as many
-- events as are enough (`words_enough` says the words for them); 8(n+1) steps. What holds of the page, the start, the answer, and the events
-- that are read from the words.
abbrev pub OfEverySingleScan : ℕ → (List ℕ → ℕ → Said → List Event → Type 0) → Type 0
OfEverySingleScan construct P =
    (bytes : List ℕ) (at n start kind flags : ℕ) (lent : List ℕ) (line : Line)
    → numbers_listed construct kind flags ≡ true
    → eqb (flags % 2) 1 ≡ false
    → events_enough (n - start) ≤ room_in (length lent)
    → page_check bytes at n start ≡ Ok line
    → let left = whole_of bytes at n start construct kind flags lent in
    P (page_of bytes at n) start left.answer (events_in left.words 0 left.scan.used)

-- Any calls, with any room: such a scan begins, runs are made over its page, with whatever allowance, verdicts are offered, and then it is
-- neither paused nor full. After 8(n+1) steps it is not paused (`a_scan_without_verdicts_ends`), and with room for 6(n+1) events it is not full
-- (`room_is_enough`).
abbrev pub OfEveryCountingScan : ℕ → (List ℕ → ℕ → Said → List Event → Type 0) → Type 0
OfEveryCountingScan construct P =
    (bytes : List ℕ) (at n start kind flags : ℕ) (lent : List ℕ) (s : Scan)
    → eqb (flags % 2) 1 ≡ false
    → begin_of bytes at n start construct kind flags (length lent) ≡ started s
    → (calls : List Call)
    → OverPage (page_of bytes at n) calls
    → ((answer_of (scan_after calls s lent)).number ≡ number.paused → ⊥)
    → NotFull (answer_of (scan_after calls s lent))
    → P (page_of bytes at n) start (answer_of (scan_after calls s lent)) (events_after calls s lent)

-- The scan run by itself, whatever it is told, if it is not full: what demand 3 compares a worker's page with.
abbrev pub OfEveryScanAlone : ℕ → (List ℕ → ℕ → Said → List Event → Type 0) → Type 0
OfEveryScanAlone construct P =
    (bytes : List ℕ) (at n start kind flags words : ℕ) (s : Scan)
    → eqb (flags % 2) 1 ≡ false
    → begin_of bytes at n start construct kind flags words ≡ started s
    → (k : ℕ) (vs : List Verdict)
    → 8 * (n - start + 1) ≤ k
    → NotFull (answer_of (run_alone (page_of bytes at n) k vs s))
    → P (page_of bytes at n) start (answer_of (run_alone (page_of bytes at n) k vs s)) (events_alone (page_of bytes at n) k vs s)

-- in one call, in any calls, and by itself
pub record EveryWay (construct : ℕ) (P : List ℕ → ℕ → Said → List Event → Type 0) : Type 0 where
  pub single : OfEverySingleScan construct P
  pub calls : OfEveryCountingScan construct P
  pub alone : OfEveryScanAlone construct P

-- ---- the promises

-- `an_expression_closes_by_the_rule`: of an expression that starts at a `{`
abbrev pub Expression : List ℕ → ℕ → Said → List Event → Type 0
Expression page start a events = get_or page start 0 ≡ left_brace → ByTheRule page start a

abbrev pub ExpressionsClose : Type 0
ExpressionsClose = EveryWay expression Expression

-- `a_tag_closes_its_expressions_by_the_rule`: of a tag, by its events
abbrev pub Tag : List ℕ → ℕ → Said → List Event → Type 0
Tag page start a events = AllByTheRule page a events

abbrev pub TagsClose : Type 0
TagsClose = EveryWay tag Tag
