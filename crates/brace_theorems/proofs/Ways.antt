-- Three ways to make a scan without a verdict source. What holds of every run from its start that came to rest, and not for want of room,
-- holds in one call with room and steps enough, in any calls once the scan is neither paused nor full, and of the scan run by itself. Nothing
-- here is of braces.
use Prim.Native.Nat.{ℕ, ◌+◌, ◌-◌, ◌*◌, ◌%◌, ◌≤◌, ◌<◌}
use native.Mathlib.Omega.{arith}
use mathlib.Core.Path.{◌≡◌, refl, ap, ◌∙◌, subst}
use mathlib.Core.Bool.{true, false}
use mathlib.Core.List.{List, [], ◌∷◌, ◌++◌, append-nil}
use lib.Dec.{eqb}
use lib.ListN.{length}
use borrow.Author.Tests.{lt-ltb, eqb-true}
use Rattle.base.specs.If.{when◌then◌else◌}
use Rattle.base.proofs.Choice.{case}
use Rattle.base.specs.State as state
use Rattle.base.specs.State.{rests}
use Rattle.base.specs.declared.Verdict.{Verdict}
use Rattle.page.specs.Page.{page_of, page_check}
use Rattle.page.specs.declared.line.Line.{Line}
use Rattle.std.specs.Prelude.{Ok}
use Rattle.events.specs.declared.Event.{Event}
use Rattle.events.specs.Words.{events_in}
use Rattle.tokenizer.specs.declared.Job.{Job}
use Rattle.tokenizer.specs.Ranges.{job_in_range}
use Rattle.scan.specs.declared.Scan.{Scan}
use Rattle.base.specs.Table.{find}
use Rattle.scan.specs.Answer.{Said, refusal, answer_of}
use Rattle.scan_theorems.specs.Room.{NotFull}
use Rattle.scan.specs.Scan.{run_scan, run_events}
use Rattle.scan.specs.Call.{runnable, run_of, job_of, fresh_in, fresh_scan, numbers_listed, started, begin_of, single_of, whole_of}
use Rattle.scan.specs.Statement.{run, scan_after, call_events, events_after}
use Rattle.scan.specs.Alone.{told_scan, run_alone, events_alone}
use Rattle.scan.proofs.Begun.{Begins, begins}
use Rattle.scan.proofs.Kept.{events_stay, events_are_read}
use Rattle.scan.proofs.Runs.{run_keeps, run_rest, events_rest}
use Rattle.scan_theorems.proofs.Tests.{clash}
use Rattle.scan_theorems.proofs.Calls.{page_long, job_in_range_lem}
use Rattle.scan_theorems.proofs.Unasked.{needs_verdict}
use Rattle.scan_theorems.proofs.Fresh.{steps_fresh}
use Rattle.scan_theorems.proofs.Scans.{within_fresh, run_ends}
use Rattle.scan_theorems.proofs.Room.{Roomy, roomy_step, roomy_begun}
use Rattle.scan_theorems.proofs.Counting.{Silent, silent_step, silent_fresh, fresh_runnable}
use Rattle.brace_theorems.specs.Closing.{OfEverySingleScan, OfEveryCountingScan, OfEveryScanAlone, EveryWay}
use Rattle.brace_theorems.proofs.Scans.{Unfilled, Settled}
use Rattle.brace_theorems.proofs.Calls.{OneRun, Runs, one_run, not_paused}

-- of every run from its start that came to rest, and not for want of room
abbrev pub OfEveryRest : ℕ → (List ℕ → ℕ → Said → List Event → Type 0) → Type 0
OfEveryRest construct P =
    (bytes : List ℕ) (at n start kind flags words : ℕ) (s : Scan)
    → eqb (flags % 2) 1 ≡ false
    → begin_of bytes at n start construct kind flags words ≡ started s
    → (k : ℕ)
    → Settled (run_scan (page_of bytes at n) k s)
    → P (page_of bytes at n) start (answer_of (run_scan (page_of bytes at n) k s)) (run_events (page_of bytes at n) k s)

-- ---- a new scan

module _ (bytes : List ℕ) (at n start construct kind flags words : ℕ) (s : Scan) (e : begin_of bytes at n start construct kind flags words ≡ started s) where
  abbrev own : List ℕ
  own = page_of bytes at n

  abbrev job : Job
  job = job_of construct kind flags n start words

  new : Begins bytes at n start construct kind flags words s
  new = begins bytes at n start construct kind flags words s e

  ranged : job_in_range job ≡ true
  ranged = job_in_range_lem bytes at n start construct kind flags words new.listed new.admitted

  long : length own ≡ n
  long = page_long bytes at n start new.admitted

  silent : eqb (flags % 2) 1 ≡ false → Silent own s
  silent even = rw new.fresh (silent_fresh own job ranged long even)

  -- it can be run, and comes to rest
  runs : (k : ℕ) → 0 < k → runnable s (length own) words k ≡ true
  runs k some = rw new.fresh (fresh_runnable own job k some ranged long)

  comes_to_rest : (k : ℕ) → 8 * (n - start + 1) ≤ k → rests (run_scan own k s).tokenizer.state ≡ true
  unfolding fresh_in
  comes_to_rest k enough = rw new.fresh (run_ends own k (fresh_scan own job) (within_fresh own job ranged long) (omega (arith, steps_fresh own job long)))

-- ---- any calls

-- a scan that is full answers so
full_said : (s : Scan) → s.tokenizer.state ≡ state.full → (answer_of s).number ≡ state.full
unfolding answer_of refusal find when◌then◌else◌
full_said s e = rw e refl

not_filled : (s : Scan) → NotFull (answer_of s) → Unfilled s
not_filled s h = case _ (eqb s.tokenizer.state state.full) (λ e. absurd (h (full_said s (eqb-true s.tokenizer.state state.full e)))) (λ e. e)

calls_of : (construct : ℕ) (P : List ℕ → ℕ → Said → List Event → Type 0) → OfEveryRest construct P → OfEveryCountingScan construct P
unfolding Runs
calls_of construct P of bytes at n start kind flags lent s even e calls over unpaused unfilled =
    let page = page_of bytes at n in
    let r : OneRun page s (scan_after calls s lent) (events_after calls s lent) = one_run page calls s lent over (silent bytes at n start construct kind flags (length lent) s e even) in
    rw (r.scan, r.events)
    (of bytes at n start kind flags (length lent) s even e r.steps
    (subst Settled r.scan (record { rests = not_paused (scan_after calls s lent) unpaused; unfilled = not_filled (scan_after calls s lent) unfilled })))

-- ---- by itself

module _ (page : List ℕ) (k : ℕ) where
  -- a scan that does not ask is told nothing
  untold : (s : Scan) (v : Verdict) → Silent page s → told_scan s v ≡ s
  unfolding when◌then◌else◌
  untold s v h =
      case _ (eqb s.tokenizer.state state.asking)
      (λ e. clash (needs_verdict s.tokenizer.state) (rw (eqb-true s.tokenizer.state state.asking e) refl) h.counts.free)
      (λ e. rw e refl)

  alone_rests : (vs : List Verdict) (s : Scan) → Silent page s → rests s.tokenizer.state ≡ true → (run_alone page k vs s ≡ s) × (events_alone page k vs s ≡ [])
  unfolding run_alone events_alone
  alone_rests [] s h r = (run_rest page s k r, events_rest page s k r)
  alone_rests (v ∷ vs) s h r = rw (run_rest page s k r, events_rest page s k r, untold s v h) (alone_rests vs s h r)

  -- it comes to rest in its first run
  alone_run : (vs : List Verdict) (s : Scan) → Silent page s → rests (run_scan page k s).tokenizer.state ≡ true
      → (run_alone page k vs s ≡ run_scan page k s) × (events_alone page k vs s ≡ run_events page k s)
  unfolding run_alone events_alone
  alone_run [] s h r = (refl, refl)
  alone_run (v ∷ vs) s h r =
      let q = run_keeps page (Silent page) (silent_step page) k s h in
      let x = alone_rests vs (run_scan page k s) q r in
      rw (untold (run_scan page k s) v q) (x.0, ap (λ (l : List Event). run_events page k s ++ l) x.1 ∙ append-nil (run_events page k s))

alone_of : (construct : ℕ) (P : List ℕ → ℕ → Said → List Event → Type 0) → OfEveryRest construct P → OfEveryScanAlone construct P
alone_of construct P of bytes at n start kind flags words s even e k vs enough unfilled =
    let r = comes_to_rest bytes at n start construct kind flags words s e k enough in
    let a = alone_run (page_of bytes at n) k vs s (silent bytes at n start construct kind flags words s e even) r in
    rw (a.0, a.1) (of bytes at n start kind flags words s even e k (record { rests = r; unfilled = not_filled _ (rw a.0 at unfilled) }))

-- ---- one call

module _ (bytes : List ℕ) (at n start construct kind flags : ℕ) (lent : List ℕ) (line : Line) (listed : numbers_listed construct kind flags ≡ true) (good : page_check bytes at n start ≡ Ok line) where
  abbrev page : List ℕ
  page = page_of bytes at n

  abbrev steps : ℕ
  steps = 8 * (n - start + 1)

  abbrev scan : Scan
  scan = fresh_in line (job_of construct kind flags n start (length lent))

  begun : begin_of bytes at n start construct kind flags (length lent) ≡ started scan
  unfolding begin_of when◌then◌else◌
  begun = rw (listed, good) refl

  -- the call is a new scan and a run
  whole_is : whole_of bytes at n start construct kind flags lent ≡ run_of page steps scan lent
  unfolding single_of when◌then◌else◌
  whole_is = rw (lt-ltb 0 steps (omega arith), begun) refl

  can_run : runnable scan (length page) (length lent) steps ≡ true
  can_run = runs bytes at n start construct kind flags (length lent) scan begun steps (omega arith)

  answer_is : (run_of page steps scan lent).answer ≡ answer_of (run_scan page steps scan)
  unfolding run_of when◌then◌else◌
  answer_is = rw can_run refl

  list_is : call_events (run page steps) scan lent ++ [] ≡ run_events page steps scan
  unfolding when◌then◌else◌
  list_is = rw can_run (append-nil (run_events page steps scan))

  events_are : events_in (run_of page steps scan lent).words 0 (run_of page steps scan lent).scan.used ≡ run_events page steps scan
  events_are = events_are_read lent _ _ _ (events_stay bytes at n start construct kind flags lent scan begun (run page steps ∷ [])) ∙ list_is

single_of_lem : (construct : ℕ) (P : List ℕ → ℕ → Said → List Event → Type 0) → OfEveryRest construct P → OfEverySingleScan construct P
single_of_lem construct P of bytes at n start kind flags lent line listed even room good =
    let new = begun bytes at n start construct kind flags lent line listed good in
    let k = 8 * (n - start + 1) in
    rw (
      whole_is bytes at n start construct kind flags lent line listed good,
      answer_is bytes at n start construct kind flags lent line listed good,
      events_are bytes at n start construct kind flags lent line listed good,
    )
    (of bytes at n start kind flags (length lent) _ even new k
    (record {
      rests = comes_to_rest bytes at n start construct kind flags (length lent) _ new k (omega arith);
      unfilled = (run_keeps (page_of bytes at n) (Roomy (page_of bytes at n)) (roomy_step (page_of bytes at n)) k _ (roomy_begun bytes at n start construct kind flags (length lent) _ room new)).goes_on;
    }))

pub every_way : (construct : ℕ) (P : List ℕ → ℕ → Said → List Event → Type 0) → OfEveryRest construct P → EveryWay construct P
every_way construct P of = record { single = single_of_lem construct P of; calls = calls_of construct P of; alone = alone_of construct P of }
