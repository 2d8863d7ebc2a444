-- A verdict that says error is placed at the byte of the body that it names.
use Prim.Native.Nat.{ℕ, ◌+◌, ◌-◌, ◌≤◌, ◌<◌}
use native.Mathlib.Omega.{arith}
use native.Mathlib.Nat.{add-zero}
use mathlib.Core.Path.{◌≡◌, refl, sym, ap, ◌∙◌}
use mathlib.Core.Bool.{true, false}
use mathlib.Core.List.{List, [], ◌∷◌}
use lib.Dec.{eqb}
use lib.ListN.{length}
use borrow.Author.Tests.{eq-eqb, le-ltb, lt-ltb, ltb-false, le-leb}
use Rattle.base.specs.If.{when◌then◌else◌}
use Rattle.base.proofs.Choice.{if_no, case, and_yes, and_no'}
use Rattle.base.specs.Range.{within}
use Rattle.base.specs.Page.{byte_at}
use Rattle.base.specs.State as state
use Rattle.base.specs.Table.{find}
use Rattle.base.specs.Decide.{retry, retry_with, count_of}
use Rattle.base.specs.declared.InTab.TheVariants.{Outside}
use Rattle.base.specs.declared.Marks.TheVariants.{Nothing}
use Rattle.base.specs.declared.Effect.TheVariants.{Fault}
use Rattle.base.specs.declared.Move.{Move}
use Rattle.base.specs.declared.Verdict.{Verdict}
use Rattle.base.specs.declared.Verdict.TheVariants.{Wrong}
use Rattle.body_places.specs.Body.{places_of, place_of}
use Rattle.events.specs.Words.{room_in}
use Rattle.events.proofs.Laws.{written_long}
use Rattle.page.specs.Line.{line_of, column_of, line_at}
use Rattle.page.specs.Page.{page_of}
use Rattle.tokenizer.specs.Decision.{not_ascii, expression_fault, esm_fault, esm_decision, expression_decision, state_decision, decision}
use Rattle.tokenizer.specs.Moved.{moved}
use Rattle.tokenizer.specs.Ranges.{esm, largest_number, verdict_in_range}
use Rattle.tokenizer.specs.declared.Job.{Job}
use Rattle.scan.specs.declared.Scan.{Scan}
use Rattle.scan.specs.Lines.{column_in, within_end}
use Rattle.scan.specs.Scan.{counted, choice, lacks, carried_out, lines_step, moved_scan, step_scan, run_scan, run_events}
use Rattle.scan.specs.Answer.{said, answer_of, refusal, verdict_refusal}
use Rattle.scan.specs.Call.{runnable, run_of, givable, given_scan, give_of, fresh_in}
use Rattle.scan.specs.Statement.{Call, run, give, scan_after, words_after, events_after}
use Rattle.scan.proofs.Runs.{run_rest, run_more}
use Rattle.scan.proofs.Kept.{run_job}
use Rattle.scan.proofs.Begun.{begins}
use Rattle.scan_theorems.proofs.Fresh.{length_short}
use Rattle.scan_theorems.proofs.FaultPlaces.{expression_within, esm_within}
use Rattle.scan_theorems.proofs.Lined.{column_is, not_cut}
use Rattle.scan_theorems.proofs.Parts.{parts}
use Rattle.scan_theorems.proofs.Scans.{within_range, step_counted}
use Rattle.body_theorems.specs.Events.{Runs, no_runs, collect_events}
use Rattle.body_theorems.specs.Statement.{line_cells, OfEveryAskingScan, error_answer, ErrorPlaced}
use Rattle.body_theorems.proofs.Together.{Together}
use Rattle.body_theorems.proofs.Places.{places_part}
use Rattle.body_theorems.proofs.OneBody.{together_given, together_calls, together_new, one_body}

-- ---- the event words keep their length

abbrev Lent : Scan → List ℕ → Type 0
Lent s words = length words ≡ s.tokenizer.job.words

lent_run : (page : List ℕ) (k : ℕ) (s : Scan) (words : List ℕ) → Lent s words → Lent (run_of page k s words).scan (run_of page k s words).words
unfolding run_of when◌then◌else◌
lent_run page k s words h =
    case _ (runnable s (length page) (length words) k)
    (λ e. rw e (written_long words s.used (run_events page k s) ∙ h ∙ ap (λ (j : Job). j.words) (sym (run_job page k s))))
    (λ e. rw e h)

lent_give : (s : Scan) (v : Verdict) (words : List ℕ) → Lent s words → Lent (give_of s v).scan words
unfolding give_of given_scan when◌then◌else◌
lent_give s v words h = case _ (givable s v) (λ e. rw e h) (λ e. rw e h)

lent_calls : (calls : List Call) (s : Scan) (words : List ℕ) → Lent s words → Lent (scan_after calls s words) (words_after calls s words)
lent_calls [] s words h = h
lent_calls (run page k ∷ calls) s words h = lent_calls calls (run_of page k s words).scan (run_of page k s words).words (lent_run page k s words h)
lent_calls (give v ∷ calls) s words h = lent_calls calls (give_of s v).scan words (lent_give s v words h)

-- ---- the answer

module _ (page : List ℕ) (s : Scan) (r : Runs) (words : List ℕ) (h : Together page s r) (lent : Lent s words) (number offset : ℕ) (a : s.tokenizer.state ≡ state.asking) (v : within 1 largest_number number ≡ true) where
  abbrev given : Scan
  given = given_scan s (Wrong number offset)

  heard : verdict_in_range (Wrong number offset) ≡ true
  unfolding verdict_in_range
  heard = v

  still : Together page given r
  still = together_given page s r h (Wrong number offset) a heard

  still_lent : Lent given words
  unfolding given_scan
  still_lent = lent

  -- the verdict is kept
  given_is : (give_of s (Wrong number offset)).scan ≡ given
  unfolding give_of givable when◌then◌else◌
  given_is = rw (and_yes _ _ (eq-eqb s.tokenizer.state state.asking a) (and_yes _ _ heard (within_range page s h.within)))

  -- and then decides, at the place that the lines say
  abbrev place : ℕ
  place = place_of (places_of (line_cells page s)) offset s.tokenizer.at

  abbrev error : Move
  error = retry_with state.verdict_error Nothing (Fault number place)

  decides : choice page given ≡ error
  unfolding choice decision state_decision expression_decision esm_decision find given_scan expression_fault esm_fault within when◌then◌else◌
  decides =
      case _ (eqb s.tokenizer.job.construct esm)
      (λ c. rw (c, and_no' (not_ascii (byte_at page s.tokenizer.at)) false refl, places_part page (s.tokenizer.at - s.tokenizer.job.start) s.tokenizer.job.start))
      (λ c. rw (c, and_no' (not_ascii (byte_at page s.tokenizer.at)) false refl))

  goes : state.rests given.tokenizer.state ≡ false
  unfolding given_scan when◌then◌else◌
  goes = case _ (eqb s.tokenizer.job.construct esm) (λ c. rw c) (λ c. rw c)

  -- it writes nothing, so there is room for it
  carried_out_lem : carried_out given (choice page given) ≡ error
  carried_out_lem =
      ap (carried_out given) decides
      ∙ sym (if_no Move (lacks given error) error (retry state.full Nothing) error (le-ltb (room_in given.tokenizer.job.words - given.used) 0 (omega arith)) refl)

  abbrev after_error : Scan
  after_error = moved_scan given error 0 (lines_step page given error)

  step_is : step_scan page given ≡ after_error
  unfolding step_scan
  step_is = ap (λ (m : Move). moved_scan given m (count_of m.marks) (lines_step page given m)) carried_out_lem

  rests_then : state.rests after_error.tokenizer.state ≡ true
  unfolding moved
  rests_then = refl

  counted_is : counted given ≡ s.steps + 1
  unfolding step_scan given_scan
  counted_is = step_counted page given still.within goes

  -- the line of the place is looked up no further than one past the page's end
  abbrev looked_up : ℕ
  looked_up = within_end page place

  tells : answer_of after_error ≡ said 8 (place ∷ line_of page looked_up ∷ column_in (line_at page looked_up) Outside ∷ number ∷ (s.used + 0) ∷ counted given ∷ [])
  unfolding answer_of refusal verdict_refusal find moved given_scan when◌then◌else◌
  tells = refl

  -- the place at fault is no further on than one past the byte that asked, so that it is found, and its column counted to the end
  place_inside : place ≤ s.tokenizer.at + 1
  unfolding when◌then◌else◌
  place_inside =
      case _ (eqb s.tokenizer.job.construct esm)
      (λ c. rw (c, places_part page (s.tokenizer.at - s.tokenizer.job.start) s.tokenizer.job.start) (omega (arith, esm_within page s.tokenizer.at s.tokenizer.job.start offset)))
      (λ c. rw c (expression_within page s.tokenizer.at s.tokenizer.regs.body offset))

  found_there : looked_up ≡ place
  found_there = let p = parts s.tokenizer h.within.sound.range in not_cut page place (omega (arith, place_inside, p.at, h.within.sound.size))

  column_there : column_in (line_at page place) Outside ≡ column_of page place
  column_there =
      let p = parts s.tokenizer h.within.sound.range in
      let short = length_short s.tokenizer.job p.job in
      column_is page (omega (arith, short, h.within.sound.size)) place (omega (arith, place_inside, p.at, short)) Outside ∙ add-zero (column_of page place)

  -- one step answers, and there is no other
  run_is : (k : ℕ) → 0 < k → run_scan page k given ≡ after_error
  run_is k p = run_more page given k p goes ∙ rw step_is (run_rest page after_error (k - 1) rests_then)

  ran_is : (k : ℕ) → 0 < k → (run_of page k given words).answer ≡ answer_of (run_scan page k given)
  unfolding run_of runnable when◌then◌else◌
  ran_is k p =
      rw (
        lt-ltb 0 k p,
        le-leb state.first_running given.tokenizer.state (ltb-false given.tokenizer.state state.first_running goes),
        eq-eqb (length page) given.tokenizer.job.length still.within.sound.size,
        eq-eqb (length words) given.tokenizer.job.words still_lent,
        within_range page given still.within,
      )

  error_answered : (k : ℕ) → 0 < k → error_answer page s words number offset k ≡ said 8 (place ∷ line_of page place ∷ column_of page place ∷ number ∷ s.used ∷ (s.steps + 1) ∷ [])
  error_answered k p = ap (λ (x : Scan). (run_of page k x words).answer) given_is ∙ ran_is k p ∙ ap answer_of (run_is k p) ∙ tells ∙ rw (found_there, counted_is, column_there, add-zero)

pub an_error_is_placed_at_its_byte : OfEveryAskingScan ErrorPlaced
unfolding fresh_in
an_error_is_placed_at_its_byte bytes at n start construct kind flags lent s e calls over a number offset allowance k v p =
    let page = page_of bytes at n in
    let last = scan_after calls s lent in
    let r = collect_events page (events_after calls s lent) in
    let new : Lent s lent = ap (λ (x : Scan). x.tokenizer.job.words) (sym (begins bytes at n start construct kind flags (length lent) s e).fresh) in
    let h = together_calls page calls s lent no_runs over (together_new bytes at n start construct kind flags (length lent) s e) in
    let o = one_body page last r h a in
    let same : line_cells page last ≡ r.cells = sym o.0 ∙ o.1 in
    rw same at (error_answered page last r (words_after calls s lent) h (lent_calls calls s lent new) number offset k v allowance p)
