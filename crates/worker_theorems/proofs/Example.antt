-- Demand 3 says something: two pages, of which the first asks, is told and ends, computed from the definitions. A turn over no buffer comes
-- between, and is refused; and the lent bytes grow before the verdict is given. What demand 3 supposes holds of these calls.
use Prim.Native.Nat.{ℕ}
use native.Mathlib.Omega.{arith}
use mathlib.Core.Path.{◌≡◌, refl}
use mathlib.Core.Bool.{Bool, true, not, ◌||◌}
use mathlib.Core.List.{List, [], ◌∷◌}
use lib.ListN.{length, replicate}
use Rattle.base.specs.If.{when◌then◌else◌, among}
use Rattle.base.specs.Range.{within}
use Rattle.base.specs.Table.{find}
use Rattle.base.specs.Number as number
use Rattle.base.specs.Page.{byte_at, after_line_feed}
use Rattle.base.specs.State.{asking, done}
use Rattle.base.specs.declared.Verdict.TheVariants.{Fine}
use Rattle.char_class.specs.Class.{is_whitespace, is_space_or_tab, is_id_start, is_id_cont}
use Rattle.events.specs.Words.{written}
use Rattle.page.specs.Text.{read_from}
use Rattle.page.specs.Utf8.{table, begins, sequence_in}
use Rattle.tokenizer.specs.Decision.{esm_decision, attribute_decision, tag_decision, expression_decision, state_decision, decision}
use Rattle.tokenizer.specs.Moved.{moved}
use Rattle.tokenizer.specs.Ranges.{expression, tag, construct_listed, kind_listed, job_in_range, runs_in, is_answer, listed, is_return, numbers_in_range, places_in_range, regs_in_range, verdict_in_range, in_range}
use Rattle.scan.specs.Answer.{said, answer_of}
use Rattle.scan.specs.Scan.{choice, step_scan, step_events, run_scan, run_events}
use Rattle.scan.specs.Call.{scan_in_range, runnable, run_of, givable, given_scan, give_of, fresh_in, begin_of}
use Rattle.base.proofs.Ranges.{all, all_hold}
use Rattle.worker.specs.Place.{state_of, place_in_range, worker_in_range, holds}
use Rattle.worker.specs.Ring.{places, seek}
use Rattle.worker.specs.Worker.{start_of, admit_of, verdict_of, collect_call, page_in, lies_in, served_at, turn_at, turn_of}
use Rattle.page.specs.Line.{line_of, column_of}
use Rattle.scan.specs.Lines.{line_in_range, lines_in_range}
use Rattle.worker_theorems.specs.Calls.{Page, Ask, admit, verdict, a_turn, collect, State, next, answer, after_calls, place_at}
use Rattle.worker_theorems.specs.Demand3.{begun, text_of, unfinished, Lent, Fair}

-- {a}<a>
abbrev bytes : List ℕ
bytes = 123 ∷ 97 ∷ 125 ∷ 60 ∷ 97 ∷ 62 ∷ []

-- the expression, with a verdict source, and the tag
abbrev first : Page
first = record { at = 0; long = 3; start = 0; construct = expression; kind = 0; flags = 1 }

abbrev second : Page
second = record { at = 3; long = 3; start = 0; construct = tag; kind = 0; flags = 0 }

-- two steps to a turn, room for ten events at each place
abbrev buffer : List ℕ
buffer = replicate 640 0

abbrev s₁ : State
s₁ = next (admit bytes first) (begun 2 buffer)

-- a turn over the buffer as the last turn left it
abbrev turn : List ℕ → State → Ask
turn lent s = a_turn lent s.words

-- the second page is admitted between, and served between; the bytes grow by one
abbrev grown : List ℕ
grown = 123 ∷ 97 ∷ 125 ∷ 60 ∷ 97 ∷ 62 ∷ 10 ∷ []

abbrev s₂ : State
s₂ = next (turn bytes s₁) s₁

abbrev s₃ : State
s₃ = next (a_turn bytes []) (next (admit bytes second) s₂)

abbrev s₄ : State
s₄ = next (turn bytes s₃) s₃

abbrev s₅ : State
s₅ = next (turn bytes s₄) s₄

abbrev s₆ : State
s₆ = next (turn bytes s₅) s₅

abbrev s₇ : State
s₇ = next (turn bytes s₆) s₆

abbrev s₈ : State
s₈ = next (verdict 0 Fine) s₇

abbrev s₉ : State
s₉ = next (turn grown s₈) s₈

abbrev since : List Ask
since =
    turn bytes s₁
    ∷ admit bytes second
    ∷ a_turn bytes []
    ∷ turn bytes s₃
    ∷ turn bytes s₄
    ∷ turn bytes s₅
    ∷ turn bytes s₆
    ∷ verdict 0 Fine
    ∷ turn grown s₈
    ∷ turn grown s₉
    ∷ []

-- it is placed, asks in the end, and once told ends with Done 3, 8 events, 6 steps
pub the_first_page : (answer (admit bytes first) (begun 2 buffer) ≡ said number.placed (0 ∷ [])) × (state_of (place_at 0 s₇) ≡ asking) × (answer (collect 0) (after_calls since s₁) ≡ said done (3 ∷ 8 ∷ 6 ∷ []))
unfolding
    start_of
    admit_of
    verdict_of
    collect_call
    holds
    place_in_range
    worker_in_range
    turn_of
    turn_at
    served_at
    seek
    begin_of
    read_from
    table
    begins
    sequence_in
    run_of
    runnable
    give_of
    givable
    given_scan
    scan_in_range
    in_range
    construct_listed
    kind_listed
    job_in_range
    runs_in
    is_answer
    listed
    is_return
    numbers_in_range
    places_in_range
    regs_in_range
    verdict_in_range
    run_scan
    run_events
    written
    step_scan
    step_events
    choice
    moved
    decision
    state_decision
    expression_decision
    tag_decision
    attribute_decision
    esm_decision
    find
    byte_at
    after_line_feed
    is_whitespace
    is_space_or_tab
    is_id_start
    is_id_cont
    within
    among
    answer_of
    fresh_in
    line_of
    column_of
    lines_in_range
    line_in_range
    when◌then◌else◌
the_first_page = (refl, refl, refl)

-- ---- what demand 3 supposes

implied : (a b : Bool) → (not a || b) ≡ true → a ≡ true → b ≡ true
implied a b q e = rw e at q

lent_by : (page lent : List ℕ) (s : State) → all (λ (k : ℕ). not (unfinished (place_at k s)) || lies_in (place_at k s) (length lent)) 0 places ≡ true → page_in (place_at 0 s) lent ≡ page → Lent 0 page lent s.words s
lent_by page lent s t e =
    record {
      inside = λ k h u. implied _ _ (all_hold (λ (k : ℕ). not (unfinished (place_at k s)) || lies_in (place_at k s) (length lent)) places 0 k t (omega arith) (omega arith)) u;
      same = λ u. e;
      stand = refl;
    }

fair : Fair 0 (text_of bytes first) since s₁
unfolding
    start_of
    admit_of
    verdict_of
    collect_call
    holds
    place_in_range
    worker_in_range
    turn_of
    turn_at
    served_at
    seek
    begin_of
    read_from
    table
    begins
    sequence_in
    run_of
    runnable
    give_of
    givable
    given_scan
    scan_in_range
    in_range
    construct_listed
    kind_listed
    job_in_range
    runs_in
    is_answer
    listed
    is_return
    numbers_in_range
    places_in_range
    regs_in_range
    verdict_in_range
    run_scan
    run_events
    written
    step_scan
    step_events
    choice
    moved
    decision
    state_decision
    expression_decision
    tag_decision
    attribute_decision
    esm_decision
    find
    byte_at
    after_line_feed
    is_whitespace
    is_space_or_tab
    is_id_start
    is_id_cont
    within
    among
    answer_of
    fresh_in
    line_of
    column_of
    lines_in_range
    line_in_range
    when◌then◌else◌
fair =
    let page = text_of bytes first in (λ e. lent_by page bytes s₁ refl refl, tt, (tt, tt, (λ e. absurd (omega (arith, e)), tt, (λ e. lent_by page bytes s₃ refl refl, tt, (λ e. lent_by page bytes s₄ refl refl, tt, (λ e. lent_by page bytes s₅ refl refl, tt, (λ e. lent_by page bytes s₆ refl refl, tt, (tt, tt, (λ e. lent_by page grown s₈ refl refl, tt, (λ e. lent_by page grown s₉ refl refl, tt, tt))))))))))
