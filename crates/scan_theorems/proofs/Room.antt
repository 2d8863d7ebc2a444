-- A scan of n bytes writes at most 6(n+1) events, and one with room for so many never runs full.
use Prim.Native.Nat.{ℕ, ◌+◌, ◌-◌, ◌*◌, ◌≤◌}
use native.Mathlib.Omega.{arith}
use mathlib.Core.Path.{◌≡◌, refl, ap, ◌∙◌}
use mathlib.Core.Bool.{true, false}
use mathlib.Core.List.{List, [], ◌∷◌}
use lib.ListN.{length, get_or, length-append}
use lib.Dec.{leb, ltb, eqb}
use borrow.Author.Tests.{eq-eqb, le-ltb}
use Rattle.base.specs.If.{when◌then◌else◌}
use Rattle.base.proofs.Choice.{if_is, case}
use Rattle.base.specs.Page.{page_limit, byte_at}
use Rattle.base.specs.Number as number
use Rattle.base.specs.State as state
use Rattle.base.specs.State.{rests}
use Rattle.base.specs.Decide.{list_of, count_of}
use Rattle.base.specs.declared.Verdict.{Verdict}
use Rattle.page.specs.Page.{page_of}
use Rattle.events.specs.Words.{width, room_in}
use Rattle.events.proofs.Laws.{count_is}
use Rattle.tokenizer.specs.declared.Job.{Job}
use Rattle.tokenizer.specs.Ranges.{esm, job_in_range, verdict_in_range}
use Rattle.room.specs.Room.{events_enough, enough_of}
use Rattle.scan.specs.declared.Scan.{Scan}
use Rattle.scan.specs.Answer.{Said, answer_of}
use Rattle.scan.specs.Scan.{choice, marks_at, step_scan, run_scan, run_events}
use Rattle.scan.specs.Call.{runnable, run_of, given_scan, job_of, fresh_in, fresh_scan, Begun, started, not_started, begin_of, Left, ran_from, single_of}
use Rattle.scan.specs.Alone.{told_scan, run_alone, events_alone}
use Rattle.scan.proofs.Begun.{begins}
use Rattle.scan.proofs.Pausing.{events_are_counted}
use Rattle.scan.proofs.Kept.{step_job}
use Rattle.scan.proofs.Runs.{run_keeps}
use Rattle.scan_theorems.specs.Rows.{too_many_events}
use Rattle.scan_theorems.specs.Room.{FewEvents, NotFull, NeverFull, SaysWords, SingleNeverFull, CallsNeverFull}
use Rattle.scan_theorems.proofs.Tests.{clash}
use Rattle.scan_theorems.proofs.Price.{events, price_events}
use Rattle.scan_theorems.proofs.Falls.{falls}
use Rattle.scan_theorems.proofs.Scans.{event_bound, Within, within_range, within_step, within_given, within_fresh, within_alone, alone_keeps, told_keeps, calls_keep, alone_job}
use Rattle.scan_theorems.proofs.Calls.{page_long, job_in_range_lem, not_begun}
use Rattle.scan_theorems.proofs.ExactRows.{exact_rows}
use Rattle.scan_theorems.proofs.Counting.{first_is, answers_its_state}

-- ---- how many events

told_used : (s : Scan) (v : Verdict) → (told_scan s v).used ≡ s.used
unfolding given_scan
told_used s v = told_keeps (λ (r : Scan). r.used ≡ s.used) s v (λ e. refl) refl

-- a scan counts the events that it writes
alone_written : (page : List ℕ) (k : ℕ) (vs : List Verdict) (s : Scan) → (run_alone page k vs s).used ≡ s.used + length (events_alone page k vs s)
unfolding run_alone events_alone
alone_written page k [] s = events_are_counted page k s
alone_written page k (v ∷ vs) s =
    let r = run_scan page k s in
    omega (arith, alone_written page k vs (told_scan r v), told_used r v, events_are_counted page k s, length-append (run_events page k s) (events_alone page k vs (told_scan r v)))

pub at_most_six_a_byte : FewEvents
unfolding fresh_in
at_most_six_a_byte page j k vs h l vr =
    let a = within_alone page k vs (fresh_scan page j) vr (within_fresh page j h l) in
    let b : event_bound (run_alone page k vs (fresh_scan page j)).tokenizer.job ≡ event_bound j = ap event_bound (alone_job page k vs (fresh_scan page j) vr) in
    omega (arith, alone_written page k vs (fresh_scan page j), a.written, b)

-- ---- room enough

-- a scan over its page that has room for all its events, and is not full
pub record Roomy (page : List ℕ) (s : Scan) : Type 0 where
  pub within : Within page s
  pub enough : event_bound s.tokenizer.job ≤ room_in s.tokenizer.job.words
  pub goes_on : eqb s.tokenizer.state state.full ≡ false

-- what a step writes fits
fits : (page : List ℕ) (s : Scan) → rests s.tokenizer.state ≡ false → Roomy page s → too_many_events page s ≡ false
unfolding choice
fits page s r h =
    let marks = (choice page s).marks in
    let now = marks_at (byte_at page s.tokenizer.at) s (list_of marks) in
    let count : length now ≡ count_of marks = count_is marks _ _ in
    le-ltb (room_in s.tokenizer.job.words - s.used) (length now)
    (omega (arith, count, price_events marks, falls events page s.tokenizer h.within.sound r, h.within.written, h.enough))

pub roomy_step : (page : List ℕ) (s : Scan) → rests s.tokenizer.state ≡ false → Roomy page s → Roomy page (step_scan page s)
roomy_step page s r h =
    record {
      within = within_step page s h.within r;
      enough = rw step_job h.enough;
      goes_on = (exact_rows page s (within_range page s h.within) r).ten ∙ fits page s r h;
    }

pub roomy_given : (page : List ℕ) (s : Scan) (v : Verdict) → s.tokenizer.state ≡ state.asking → verdict_in_range v ≡ true → Roomy page s → Roomy page (given_scan s v)
unfolding given_scan
roomy_given page s v e g h =
    record {
      within = within_given page s v h.within e g;
      enough = h.enough;
      goes_on = if_is ℕ (λ (n : ℕ). eqb n state.full ≡ false) (eqb s.tokenizer.job.construct esm) _ _ (λ c. refl) (λ c. refl);
    }

roomy_fresh : (page : List ℕ) (j : Job) → job_in_range j ≡ true → length page ≡ j.length → event_bound j ≤ room_in j.words → Roomy page (fresh_scan page j)
unfolding fresh_in
roomy_fresh page j h l e =
    record {
      within = within_fresh page j h l;
      enough = e;
      goes_on = first_is (λ (n : ℕ). eqb n state.full ≡ false) j.construct refl refl refl;
    }

-- a scan that is not full does not answer so
pub not_full : (s : Scan) → eqb s.tokenizer.state state.full ≡ false → NotFull (answer_of s)
not_full s f e = clash (eqb (answer_of s).number state.full) (eq-eqb _ _ e) (answers_its_state state.full refl refl s f)

pub room_is_enough : NeverFull
room_is_enough page j k vs h l vr e =
    not_full _
    (alone_keeps page k (Roomy page) (roomy_step page) (λ s v g r. told_keeps (Roomy page) s v (λ a. roomy_given page s v a g r) r) vs (fresh_scan page j) vr
    (roomy_fresh page j h l e)).goes_on

-- a new scan
pub roomy_begun : (bytes : List ℕ) (at n start construct kind flags words : ℕ) (s : Scan) → events_enough (n - start) ≤ room_in words
    → begin_of bytes at n start construct kind flags words ≡ started s → Roomy (page_of bytes at n) s
roomy_begun bytes at n start construct kind flags words s enough e =
    let b = begins bytes at n start construct kind flags words s e in
    let page = page_of bytes at n in
    let j = job_of construct kind flags n start words in
    rw b.fresh
    (roomy_fresh page j (job_in_range_lem bytes at n start construct kind flags words b.listed b.admitted) (page_long bytes at n start b.admitted) enough)

-- ---- the room that the call says

-- there is a number of words for pages within the limit alone, and they hold events enough from any start on
pub words_hold : (n start w : ℕ) → SaysWords n w → events_enough (n - start) ≤ room_in w
unfolding enough_of when◌then◌else◌
words_hold n start w e =
    case _ (leb n page_limit)
    (λ l. let x : get_or (enough_of n).values 0 0 ≡ w = ap (λ (a : Said). get_or a.values 0 0) e in
    let y : events_enough n * width ≡ w = rw l at x in
    omega (arith, y))
    (λ l. let x : (enough_of n).number ≡ number.enough = ap (λ (a : Said). a.number) e in
    absurd (omega (arith, rw l at x)))

roomy_says : (bytes : List ℕ) (at n start construct kind flags words w : ℕ) (s : Scan) → SaysWords n w → w ≤ words
    → begin_of bytes at n start construct kind flags words ≡ started s → Roomy (page_of bytes at n) s
roomy_says bytes at n start construct kind flags words w s says fit =
    roomy_begun bytes at n start construct kind flags words s (omega (arith, words_hold n start w says))

pub calls_find_words_enough : CallsNeverFull
calls_find_words_enough bytes at n start construct kind flags words w s says fit e calls lent o =
    not_full _
    (calls_keep (page_of bytes at n) (Roomy (page_of bytes at n)) (roomy_step (page_of bytes at n))
    (λ x v a g r. roomy_given (page_of bytes at n) x v a g r) calls s lent o (roomy_says bytes at n start construct kind flags words w s says fit e)).goes_on

module _ (bytes : List ℕ) (at n start construct kind flags allowance : ℕ) (words : List ℕ) (w : ℕ) (says : SaysWords n w) (fit : w ≤ length words) where
  abbrev page : List ℕ
  page = page_of bytes at n

  abbrev begun : Begun
  begun = begin_of bytes at n start construct kind flags (length words)

  -- a call that is refused does not answer so
  single_refused : (a : Said) → begun ≡ not_started a → NotFull a
  single_refused = not_begun NotFull bytes at n start construct kind flags (length words) (λ f e. omega (arith, e)) (λ e. omega (arith, e)) (λ e. omega (arith, e)) (λ p e. omega (arith, e))

  single_scanned : (s : Scan) → begun ≡ started s → NotFull (run_of page allowance s words).answer
  unfolding run_of
  single_scanned s e =
      let h = roomy_says bytes at n start construct kind flags (length words) w s says fit e in
      if_is Left (λ (x : Left). NotFull x.answer) (runnable s (length page) (length words) allowance) _ _
      (λ r. not_full _ (run_keeps page (Roomy page) (roomy_step page) allowance s h).goes_on)
      (λ r f. omega (arith, f))

  single_begun : (x : Begun) → begun ≡ x → NotFull (ran_from x page allowance words).answer
  single_begun (started s) e = single_scanned s e
  single_begun (not_started a) e = single_refused a e

  single_not_full : NotFull (single_of bytes at n start construct kind flags allowance words).answer
  unfolding single_of
  single_not_full = if_is Left (λ (x : Left). NotFull x.answer) (ltb 0 allowance) _ _ (λ e. single_begun begun refl) (λ e f. omega (arith, f))

pub the_words_are_enough : SingleNeverFull
the_words_are_enough = single_not_full
