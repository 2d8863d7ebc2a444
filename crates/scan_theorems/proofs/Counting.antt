-- A scan without a verdict source, with eight steps for each byte and eight more, comes to rest and answers 0, 1, 5, 6, 7 or 10; and so does
-- a single scan in one call, unless its page is refused.
use Prim.Native.Nat.{ℕ, ◌+◌, ◌-◌, ◌*◌, ◌%◌, ◌<◌}
use native.Mathlib.Omega.{arith}
use mathlib.Core.Path.{◌≡◌, refl, sym}
use mathlib.Core.Bool.{true, false}
use mathlib.Core.List.{List, [], ◌∷◌}
use lib.ListN.{length}
use lib.Dec.{leb, ltb, eqb}
use borrow.Author.Tests.{lt-ltb, ltb-true, lt-leb, eq-eqb}
use Rattle.base.proofs.Tables.{◌&◌, found}
use Rattle.base.specs.If.{among}
use Rattle.base.proofs.Choice.{if_is, case, and_yes, or_left, or_right, or_yes'}
use Rattle.base.specs.Number as number
use Rattle.base.specs.State as state
use Rattle.base.specs.State.{rests}
use Rattle.base.specs.declared.Move.{Move}
use Rattle.page.specs.Page.{page_of}
use Rattle.tokenizer.specs.declared.Job.{Job}
use Rattle.tokenizer.specs.Moved.{moved}
use Rattle.tokenizer.specs.Ranges.{tag, esm, job_in_range}
use Rattle.scan.specs.declared.Scan.{Scan}
use Rattle.scan.specs.Answer.{Said, end_answers, page_answers, verdict_answers, verdict_refusal, refusal, answer_of}
use Rattle.scan.specs.Scan.{choice, lacks, step_scan, run_scan}
use Rattle.scan.specs.Call.{runnable, run_of, job_of, first_state, fresh_in, fresh_scan, numbers_listed, Begun, started, not_started, begin_of, Left, ran_from, single_of}
use Rattle.scan.specs.Alone.{run_alone}
use Rattle.scan.proofs.Begun.{begins}
use Rattle.scan.proofs.Runs.{run_keeps}
use Rattle.scan_theorems.specs.Counting.{counting_answers, CountingEnds, counting_call_answers, SingleCountingEnds}
use Rattle.scan_theorems.specs.Statement.{answers_of_scans}
use Rattle.scan_theorems.proofs.Tests.{clash}
use Rattle.scan_theorems.proofs.Parts.{parts, low, high}
use Rattle.scan_theorems.proofs.Fresh.{steps_fresh}
use Rattle.scan_theorems.proofs.Scans.{Within, within_step, within_fresh, within_range, run_ends}
use Rattle.scan_theorems.proofs.Calls.{page_long, job_in_range_lem, not_begun}
use Rattle.scan_theorems.proofs.TableAnswers.{a_scan_answers_by_the_table}
use Rattle.scan_theorems.proofs.Unasked.{needs_verdict, Counts, counts_tag, counts_esm, counts_full}

-- what holds of the three states that scans begin in holds of the one that a construct's scan begins in
pub first_is : (P : ℕ → Type 0) (construct : ℕ) → P state.mdx_esm_start → P state.mdx_jsx_start → P state.mdx_expression_start → P (first_state construct)
first_is P construct e t x = if_is ℕ P (eqb construct esm) _ _ (λ c. e) (λ c. if_is ℕ P (eqb construct tag) _ _ (λ d. t) (λ d. x))

-- ---- what a scan without a verdict source keeps

pub record Silent (page : List ℕ) (s : Scan) : Type 0 where
  pub within : Within page s
  pub counts : Counts s.tokenizer

pub silent_step : (page : List ℕ) (s : Scan) → rests s.tokenizer.state ≡ false → Silent page s → Silent page (step_scan page s)
unfolding step_scan choice
silent_step page s r h =
    let t = s.tokenizer in
    let p = parts t h.within.sound.range in
    record {
      within = within_step page s h.within r;
      counts = if_is Move (λ (m : Move). Counts (moved t m)) (lacks s (choice page s)) _ _ (λ e. counts_full page t h.counts)
          (λ e.
          case _ (eqb t.job.construct esm) (λ c. counts_esm page t h.counts (high t.job.construct t.state c p.state r))
          (λ c. counts_tag page t h.counts p.regs.back (low t.job.construct t.state c p.state r)));
    }

pub silent_fresh : (page : List ℕ) (j : Job) → job_in_range j ≡ true → length page ≡ j.length → j.asks ≡ false → Silent page (fresh_scan page j)
unfolding fresh_in
silent_fresh page j h l a =
    record {
      within = within_fresh page j h l;
      counts = record { silent = a; none = refl; free = first_is (λ (name : ℕ). needs_verdict name ≡ false) j.construct refl refl refl };
    }

-- ---- the answer

-- a scan answers the number of the state that it rests in: no number but that of a pause, or of a scan that no call gave
pub answers_its_state : (x : ℕ) → eqb number.paused x ≡ false → eqb number.bad_call x ≡ false → (s : Scan) → eqb s.tokenizer.state x ≡ false → eqb (answer_of s).number x ≡ false
unfolding answer_of refusal verdict_refusal
answers_its_state x p c s f =
    if_is Said Other (leb state.first_running n) _ _ (λ e. p)
    (λ e.
    found Other n (end_answers s) _ (same state.done & same state.nok & same state.asking & tt)
    (found Other n (page_answers s) _ (same state.not_ascii & same state.eof & same state.unexpected & same state.full & tt)
    (found Other n (verdict_answers s) _ (same state.verdict_error & same state.verdict_eof & tt) c)))
  where
    n : ℕ
    n = s.tokenizer.state

    Other : Said → Type 0
    Other a = eqb a.number x ≡ false

    same : (name : ℕ) → n ≡ name → eqb name x ≡ false
    same name k = rw (sym k) f

-- the answers of a scan that a scan without a verdict source does not give
abbrev other_answers : List ℕ
other_answers = state.verdict_error ∷ state.verdict_eof ∷ state.asking ∷ number.paused ∷ []

-- a scan that rests where no verdict is needed gives none of them
rest_answers : (s : Scan) → rests s.tokenizer.state ≡ true → needs_verdict s.tokenizer.state ≡ false → among other_answers (answer_of s).number ≡ false
unfolding answer_of refusal verdict_refusal among
rest_answers s r f =
    if_is Said Other (leb state.first_running n) _ _ (λ e. clash (leb state.first_running n) e (lt-leb state.first_running n (ltb-true n state.first_running r)))
    (λ e.
    found Other n (end_answers s) _ ((λ k. refl) & (λ k. refl) & never state.asking refl & tt)
    (found Other n (page_answers s) _ ((λ k. refl) & (λ k. refl) & (λ k. refl) & (λ k. refl) & tt)
    (found Other n (verdict_answers s) _ (never state.verdict_error refl & never state.verdict_eof refl & tt) refl)))
  where
    n : ℕ
    n = s.tokenizer.state

    Other : Said → Type 0
    Other a = among other_answers a.number ≡ false

    never : {A : Type 0} (name : ℕ) → needs_verdict name ≡ true → n ≡ name → A
    never name h k = clash (needs_verdict n) (rw k h) f

-- an answer of a scan that is none of the others
rest_of : (n : ℕ) → among answers_of_scans n ≡ true → among other_answers n ≡ false → among counting_answers n ≡ true
unfolding among
rest_of n y o =
    let a = or_right (eqb n state.verdict_error) _ o in
    let b = or_right (eqb n state.verdict_eof) _ a in
    let d = or_right (eqb n state.asking) _ b in
    rw (or_left (eqb n state.verdict_error) _ o, or_left (eqb n state.verdict_eof) _ a, or_left (eqb n state.asking) _ b, or_left (eqb n number.paused) _ d) at y

pub a_scan_without_verdicts_ends : CountingEnds
unfolding run_alone fresh_in
a_scan_without_verdicts_ends page j k h l a b =
    let f = fresh_scan page j in
    let r = run_scan page k f in
    let s = run_keeps page (Silent page) (silent_step page) k f (silent_fresh page j h l a) in
    let e = run_ends page k f (within_fresh page j h l) (omega (arith, steps_fresh page j l)) in
    rest_of (answer_of r).number (a_scan_answers_by_the_table page j k [] h l tt).0 (rest_answers r e s.counts.free)

-- ---- a single scan in one call

-- a new scan is run, if there is an allowance
pub fresh_runnable : (page : List ℕ) (j : Job) (allowance : ℕ) → 0 < allowance → job_in_range j ≡ true → length page ≡ j.length
    → runnable (fresh_scan page j) (length page) j.words allowance ≡ true
unfolding runnable fresh_in
fresh_runnable page j allowance p h l =
    and_yes _ _ (lt-ltb 0 allowance p)
    (and_yes _ _ (first_is (λ (name : ℕ). leb state.first_running name ≡ true) j.construct refl refl refl)
    (and_yes _ _ (eq-eqb (length page) j.length l)
    (and_yes _ _ (eq-eqb j.words j.words refl) (within_range page (fresh_scan page j) (within_fresh page j h l)))))

-- the answers of a scan are among those of the call
of_the_scan : (n : ℕ) → among counting_answers n ≡ true → among counting_call_answers n ≡ true
unfolding among
of_the_scan n h = or_yes' (eqb n number.too_long) _ (or_yes' (eqb n number.bad_start) _ (or_yes' (eqb n number.bad_text) _ h))

module _
    (bytes : List ℕ) (at n start construct kind flags allowance : ℕ) (words : List ℕ)
    (listed : numbers_listed construct kind flags ≡ true)
    (even : eqb (flags % 2) 1 ≡ false)
    (steps : allowance ≡ 8 * (n - start + 1))
  where
    abbrev page : List ℕ
    page = page_of bytes at n

    abbrev job : Job
    job = job_of construct kind flags n start (length words)

    abbrev begun : Begun
    begun = begin_of bytes at n start construct kind flags (length words)

    abbrev Ends : Said → Type 0
    Ends a = among counting_call_answers a.number ≡ true

    -- rows 2, 3 and 4
    page_refused : (a : Said) → begun ≡ not_started a → Ends a
    unfolding among
    page_refused = not_begun Ends bytes at n start construct kind flags (length words) (λ f. clash (numbers_listed construct kind flags) listed f) refl refl (λ p. refl)

    -- the scan is a new one, so it is run to its end
    page_scanned : (s : Scan) → begun ≡ started s → Ends (run_of page allowance s words).answer
    unfolding run_of
    page_scanned s e =
        let b = begins bytes at n start construct kind flags (length words) s e in
        let h = job_in_range_lem bytes at n start construct kind flags (length words) listed b.admitted in
        let long = page_long bytes at n start b.admitted in
        rw b.fresh
        (if_is Left (λ (x : Left). Ends x.answer) (runnable (fresh_scan page job) (length page) (length words) allowance) _ _
        (λ r. of_the_scan _ (a_scan_without_verdicts_ends page job allowance h long even (omega arith)))
        (λ r. clash _ (fresh_runnable page job allowance (omega arith) h long) r))

    begun_ends : (x : Begun) → begun ≡ x → Ends (ran_from x page allowance words).answer
    begun_ends (started s) e = page_scanned s e
    begun_ends (not_started a) e = page_refused a e

    single_ends : Ends (single_of bytes at n start construct kind flags allowance words).answer
    unfolding single_of
    single_ends =
        if_is Left (λ (x : Left). Ends x.answer) (ltb 0 allowance) _ _ (λ e. begun_ends begun refl)
        (λ e. clash (ltb 0 allowance) (lt-ltb 0 allowance (omega arith)) e)

pub a_single_scan_without_verdicts_ends : SingleCountingEnds
a_single_scan_without_verdicts_ends = single_ends
