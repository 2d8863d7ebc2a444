-- Every state that a call gives is in range: docs/NUMBERS.md lists the ranges, and `scan_in_range` is their test. A refused call gives back
-- the state that it was handed.
use Prim.Native.Nat.{ℕ, ◌+◌, ◌-◌, ◌≤◌}
use native.Mathlib.Omega.{arith}
use mathlib.Core.Path.{◌≡◌, refl, sym, ap, ◌∙◌}
use mathlib.Core.Bool.{true, false}
use mathlib.Core.List.{List, []}
use lib.ListN.{length, drop, length-drop}
use lib.Seq.{length-take-le}
use lib.Dec.{leb, ltb, eqb}
use borrow.Author.Tests.{leb-true, le-leb, ltb-true, ltb-false, eqb-true}
use Rattle.base.specs.If.{when◌then◌else◌}
use Rattle.base.proofs.Choice.{if_is, case, both, and_yes}
use Rattle.std.specs.Prelude.{Result, Ok, Err}
use Rattle.base.specs.Page.{page_limit, byte_at}
use Rattle.base.specs.Range.{within}
use Rattle.base.specs.State.{full, asking, rests}
use Rattle.base.specs.Decide.{retry, count_of}
use Rattle.base.specs.declared.Marks.TheVariants.{Nothing}
use Rattle.base.specs.declared.Move.{Move}
use Rattle.base.specs.declared.Verdict.{Verdict}
use Rattle.events.specs.Words.{room_in}
use Rattle.tokenizer.specs.declared.Job.{Job}
use Rattle.tokenizer.specs.Moved.{one_more, moved}
use Rattle.tokenizer.specs.Ranges.{esm, construct_listed, kind_listed, job_in_range, runs_in, is_answer, listed, is_return, numbers_in_range, places_in_range, regs_in_range, verdict_in_range, in_range}
use Rattle.base.specs.Number as number
use Rattle.page.specs.declared.line.Spot.{Spot}
use Rattle.page.specs.declared.Fault.{Fault}
use Rattle.page.specs.declared.Fault.TheVariants as fault
use Rattle.page.specs.declared.line.Line.{Line}
use Rattle.page.specs.Page.{page_of, page_check, Admitted}
use Rattle.scan.specs.declared.Scan.{Scan}
use Rattle.scan.specs.Answer.{Said, said, placed, refused}
use Rattle.scan.specs.Lines.{line_in_range, lines_in_range}
use Rattle.scan.specs.Scan.{step_bound, choice, lacks, carried_out, step_scan, run_scan}
use Rattle.scan.specs.Call.{scan_in_range, runnable, run_of, givable, given_scan, give_of, job_of, all_flags, fresh_scan, numbers_listed, Begun, started, not_started, begun_if, begin_of, Left, no_scan, ran_from, single_of}
use Rattle.scan.proofs.Begun.{begins}
use Rattle.scan.proofs.Runs.{run_keeps}
use Rattle.scan.proofs.Kept.{step_job}
use Rattle.scan.specs.Inner.{Small}
use Rattle.scan.proofs.Steps.{step_small}
use Rattle.scan.proofs.Ranged.{lines_small, lines_told, fit_of}
use Rattle.scan_theorems.specs.Statement.{RangesClosed}
use Rattle.scan_theorems.proofs.Parts.{parts, whole}
use Rattle.scan_theorems.proofs.Closed.{moved_in_range}
use Rattle.scan_theorems.proofs.Fresh.{length_short}
use Rattle.scan_theorems.proofs.Scans.{within_fresh, within_range}

-- what the test of a scan tells
record Known (s : Scan) : Type 0 where
  range : in_range s.tokenizer ≡ true
  used : s.used ≤ room_in s.tokenizer.job.words
  steps : s.steps ≤ step_bound s.tokenizer.job
  lines : Small s.lines

known : (s : Scan) → scan_in_range s ≡ true → Known s
unfolding scan_in_range
known s e =
    let a = both (in_range s.tokenizer) _ e in
    let b = both (leb s.used (room_in s.tokenizer.job.words)) _ a.1 in
    let d = both (leb s.steps (step_bound s.tokenizer.job)) _ b.1 in
    record {
      range = a.0;
      used = leb-true s.used (room_in s.tokenizer.job.words) b.0;
      steps = leb-true s.steps (step_bound s.tokenizer.job) d.0;
      lines = lines_small s.lines d.1;
    }

pub tokenizer_in_range : (s : Scan) → scan_in_range s ≡ true → in_range s.tokenizer ≡ true
tokenizer_in_range s e = (known s e).range

told : (s : Scan) → Known s → scan_in_range s ≡ true
unfolding scan_in_range
told s k =
    and_yes _ _ k.range
    (and_yes _ _ (le-leb s.used (room_in s.tokenizer.job.words) k.used)
    (and_yes _ _ (le-leb s.steps (step_bound s.tokenizer.job) k.steps) (lines_told s.lines k.lines)))

-- ---- a step and a run

one_more_within : (n limit : ℕ) → n ≤ limit → one_more n limit ≤ limit
one_more_within n limit h = if_is ℕ (λ (k : ℕ). k ≤ limit) (ltb n limit) (n + 1) n (λ e. omega (arith, ltb-true n limit e)) (λ e. h)

module _ (page : List ℕ) (s : Scan) (size : length page ≡ s.tokenizer.job.length) (k : Known s) (r : rests s.tokenizer.state ≡ false) where
  abbrev Fine : Move → Type 0
  Fine m = (in_range (moved s.tokenizer m) ≡ true) × (s.used + count_of m.marks ≤ room_in s.tokenizer.job.words)

  decided : lacks s (choice page s) ≡ false → Fine (choice page s)
  unfolding choice
  decided e =
      (moved_in_range page s.tokenizer (byte_at page s.tokenizer.at) k.range r, omega (arith, k.used, ltb-false (room_in s.tokenizer.job.words - s.used) (count_of (choice page s).marks) e))

  cut_off : Fine (retry full Nothing)
  unfolding moved when◌then◌else◌ listed is_answer within
  cut_off =
      let p = parts s.tokenizer k.range in
      (whole (moved s.tokenizer (retry full Nothing)) (record { at = p.at; job = p.job; state = refl; regs = p.regs; heard = p.heard }), omega (arith, k.used))

  step_known : Known (step_scan page s)
  unfolding step_scan moved
  step_known =
      let f = if_is Move Fine (lacks s (choice page s)) (retry full Nothing) (choice page s) (λ e. cut_off) decided in
      record { range = f.0; used = f.1; steps = one_more_within s.steps (step_bound s.tokenizer.job) k.steps; lines = step_small page s (carried_out s (choice page s)) short k.lines }
    where
      short : length page ≤ page_limit
      short = omega (arith, size, length_short s.tokenizer.job (parts s.tokenizer k.range).job)

run_known : (page : List ℕ) (n : ℕ) (s : Scan) → length page ≡ s.tokenizer.job.length → Known s → Known (run_scan page n s)
run_known page n s size k =
    (run_keeps page (λ (x : Scan). (length page ≡ x.tokenizer.job.length) × Known x)
    (λ x r h. (h.0 ∙ sym (ap (λ (j : Job). j.length) (step_job page x)), step_known page x h.0 h.1 r)) n s (size, k)).1

pub step_in_range : (page : List ℕ) (s : Scan) → length page ≡ s.tokenizer.job.length → rests s.tokenizer.state ≡ false → scan_in_range s ≡ true → scan_in_range (step_scan page s) ≡ true
step_in_range page s size r h = told (step_scan page s) (step_known page s size (known s h) r)

-- a run gives a state in range, or, refused, the one that it was handed
pub run_gives_in_range : (page : List ℕ) (allowance : ℕ) (s : Scan) (words : List ℕ) → scan_in_range s ≡ true → scan_in_range (run_of page allowance s words).scan ≡ true
unfolding run_of when◌then◌else◌
run_gives_in_range page allowance s words h =
    case _ (runnable s (length page) (length words) allowance) (λ e. rw e (told (run_scan page allowance s) (run_known page allowance s (sym (fit_of s (length page) (length words) allowance e).long) (known s h)))) (λ e. rw e h)

-- ---- a verdict

verdict_listed_lem : (construct : ℕ) → listed construct (when eqb construct esm then 76 else 37) ≡ true
unfolding listed is_answer runs_in within when◌then◌else◌
verdict_listed_lem construct = case _ (eqb construct esm) (λ c. rw c) (λ c. rw c)

-- the scan is in range that is given a verdict in range where it asks
pub given_in_range : (s : Scan) (v : Verdict) → s.tokenizer.state ≡ asking → verdict_in_range v ≡ true → scan_in_range s ≡ true → scan_in_range (given_scan s v) ≡ true
unfolding given_scan when◌then◌else◌
given_in_range s v e g h =
    let k = known s h in
    let p = parts s.tokenizer k.range in
    told (given_scan s v) (record {
      range = whole (given_scan s v).tokenizer (record { at = p.at; job = p.job; state = verdict_listed_lem s.tokenizer.job.construct; regs = p.regs; heard = g });
      used = k.used;
      steps = k.steps;
      lines = k.lines;
    })

pub give_gives_in_range : (s : Scan) (v : Verdict) → scan_in_range s ≡ true → scan_in_range (give_of s v).scan ≡ true
unfolding give_of givable when◌then◌else◌
give_gives_in_range s v h =
    case _ (givable s v)
    (λ e.
    let a = both (eqb s.tokenizer.state asking) _ e in
    let b = both (verdict_in_range v) _ a.1 in
    rw e (given_in_range s v (eqb-true s.tokenizer.state asking a.0) b.0 h))
    (λ e. rw e h)

-- ---- a new scan

-- the page is as long as it was said to be
pub page_long : (bytes : List ℕ) (at n start : ℕ) → Admitted bytes at n start → length (page_of bytes at n) ≡ n
page_long bytes at n start a = length-take-le n (drop at bytes) (omega (arith, length-drop at bytes, a.lies))

-- the numbers of the job were listed, the rest admitted
pub job_in_range_lem : (bytes : List ℕ) (at n start construct kind flags words : ℕ) → numbers_listed construct kind flags ≡ true → Admitted bytes at n start → job_in_range (job_of construct kind flags n start words) ≡ true
unfolding job_in_range
job_in_range_lem bytes at n start construct kind flags words l a =
    and_yes _ _ (le-leb n page_limit a.short) (and_yes _ _ (le-leb start n a.starts) (both (leb flags all_flags) _ l).1)

-- a scan that is not begun is refused by 12, 2, 3 or 4: what holds of these holds of it
pub not_begun : (P : Said → Type 0) (bytes : List ℕ) (at n start construct kind flags words : ℕ)
    → (numbers_listed construct kind flags ≡ false → P refused) → P (said number.too_long []) → P (said number.bad_start []) → ((p : Spot) → P (said number.bad_text (placed p [])))
    → (a : Said) → begin_of bytes at n start construct kind flags words ≡ not_started a → P a
unfolding begin_of when◌then◌else◌
not_begun P bytes at n start construct kind flags words bad long far text a e =
    case _ (numbers_listed construct kind flags)
    (λ l. by (page_check bytes at n start) (rw l at e))
    (λ l. told refused (rw l at e) (bad l))
  where
    told : (x : Said) → not_started x ≡ not_started a → P x → P a
    told x f g = let h : x ≡ a = cc in rw h at g

    by : (x : Result Line Fault) → begun_if x (job_of construct kind flags n start words) ≡ not_started a → P a
    by (Ok line) f = let z : ◌≡◌ {A = ℕ} 0 1 = cc in absurd (omega (arith, z))
    by (Err fault.TooLong) f = told _ f long
    by (Err fault.BadStart) f = told _ f far
    by (Err (fault.BadText p)) f = told _ f (text p)

pub new_gives_in_range : (bytes : List ℕ) (at n start construct kind flags words : ℕ) (s : Scan) → begin_of bytes at n start construct kind flags words ≡ started s → scan_in_range s ≡ true
new_gives_in_range bytes at n start construct kind flags words s e =
    let b = begins bytes at n start construct kind flags words s e in
    let page = page_of bytes at n in
    let j = job_of construct kind flags n start words in
    rw b.fresh
    (within_range page (fresh_scan page j) (within_fresh page j (job_in_range_lem bytes at n start construct kind flags words b.listed b.admitted) (page_long bytes at n start b.admitted)))

-- ---- a single scan in one call

none_in_range : scan_in_range no_scan ≡ true
unfolding scan_in_range lines_in_range line_in_range in_range job_in_range construct_listed kind_listed listed is_answer runs_in is_return numbers_in_range places_in_range regs_in_range verdict_in_range within when◌then◌else◌
none_in_range = refl

single_gives_in_range : (bytes : List ℕ) (at n start construct kind flags allowance : ℕ) (words : List ℕ) → scan_in_range (single_of bytes at n start construct kind flags allowance words).scan ≡ true
unfolding single_of
single_gives_in_range bytes at n start construct kind flags allowance words =
    if_is Left (λ (x : Left). scan_in_range x.scan ≡ true) (ltb 0 allowance) _ _ (λ e. ran (begin_of bytes at n start construct kind flags (length words)) refl) (λ e. none_in_range)
  where
    ran : (b : Begun) → begin_of bytes at n start construct kind flags (length words) ≡ b → scan_in_range (ran_from b (page_of bytes at n) allowance words).scan ≡ true
    ran (started s) e = run_gives_in_range (page_of bytes at n) allowance s words (new_gives_in_range bytes at n start construct kind flags (length words) s e)
    ran (not_started a) e = none_in_range

pub ranges_are_closed : RangesClosed
ranges_are_closed = record { new = new_gives_in_range; run = run_gives_in_range; give = give_gives_in_range; single = single_gives_in_range }
