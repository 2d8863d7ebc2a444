-- Every step of a scan is counted, and a scan of n bytes makes at most 8(n+1) of them and writes at most 6(n+1) events: one argument, with
-- two prices. And the two inductions that every promise on scans uses: what each step keeps, a run keeps; what runs and verdicts keep, a
-- whole scan keeps.
use Prim.Native.Nat.{ℕ, zero, suc, ◌+◌, ◌-◌, ◌≤◌}
use native.Mathlib.Omega.{arith}
use mathlib.Core.Path.{◌≡◌, refl, sym, ap, ◌∙◌}
use mathlib.Core.Bool.{true, false}
use mathlib.Core.List.{List, [], ◌∷◌}
use lib.ListN.{length}
use lib.Dec.{eqb}
use borrow.Author.Tests.{le-leb, ltb-false, lt-ltb, eqb-true}
use Rattle.base.specs.If.{when◌then◌else◌}
use Rattle.base.proofs.Choice.{if_is, if_yes, case, both, and_yes}
use Rattle.base.specs.Range.{within}
use Rattle.base.specs.State.{full, asking, rests}
use Rattle.base.specs.Decide.{retry, count_of}
use Rattle.base.specs.declared.Marks.TheVariants.{Nothing}
use Rattle.base.specs.declared.Move.{Move}
use Rattle.base.specs.declared.Verdict.{Verdict}
use Rattle.base.specs.Page.{page_limit, byte_at}
use Rattle.page.proofs.Lines.{line_within, column_within}
use Rattle.events.specs.Words.{room_in}
use Rattle.tokenizer.specs.declared.Job.{Job}
use Rattle.tokenizer.specs.declared.Tokenizer.{Tokenizer}
use Rattle.tokenizer.specs.Decision.{decision}
use Rattle.tokenizer.specs.Moved.{moved}
use Rattle.tokenizer.specs.Ranges.{job_in_range, is_answer, verdict_in_range}
use Rattle.scan.specs.declared.Scan.{Scan}
use Rattle.scan.specs.Scan.{step_bound, choice, lacks, carried_out, step_scan, run_scan}
use Rattle.scan.specs.Call.{scan_in_range, runnable, run_of, givable, given_scan, give_of, fresh_in, fresh_scan}
use Rattle.scan.specs.Statement.{Call, run, give, scan_after}
use Rattle.scan.specs.Alone.{told_scan, run_alone}
use Rattle.scan.proofs.Runs.{run_keeps}
use Rattle.scan.proofs.Kept.{step_job, run_job}
use Rattle.scan.specs.Inner.{Small}
use Rattle.scan.proofs.Steps.{step_small}
use Rattle.scan.proofs.Ranged.{lines_told}
use Rattle.room.specs.Room.{events_enough}
use Rattle.scan_theorems.specs.Lines.{OverPage}
use Rattle.scan_theorems.specs.Statement.{Heard, made, made_alone, FewSteps}
use Rattle.scan_theorems.proofs.Price.{Prices, price, price_least, steps, price_step, events, price_events}
use Rattle.scan_theorems.proofs.Due.{due, due_ended, left}
use Rattle.scan_theorems.proofs.Parts.{parts}
use Rattle.scan_theorems.proofs.Sound.{Sound}
use Rattle.scan_theorems.proofs.Falls.{falls, sound_moved}
use Rattle.scan_theorems.proofs.Ended.{sound_ended}
use Rattle.scan_theorems.proofs.Given.{due_given, sound_given}
use Rattle.scan_theorems.proofs.Fresh.{steps_fresh, events_fresh, start_within, length_short, sound_fresh}

-- the most events that a scan writes
abbrev pub event_bound : Job → ℕ
event_bound j = events_enough (j.length - j.start)

-- a scan over its page: in range, and with steps and events enough for what is left to do
pub record Within (page : List ℕ) (s : Scan) : Type 0 where
  pub sound : Sound page s.tokenizer
  pub room : s.used ≤ room_in s.tokenizer.job.words
  pub paid : s.steps + left page s.tokenizer ≤ step_bound s.tokenizer.job
  pub written : s.used + due events page s.tokenizer ≤ event_bound s.tokenizer.job
  pub lines : Small s.lines

-- it is in range, as the calls test it
pub within_range : (page : List ℕ) (s : Scan) → Within page s → scan_in_range s ≡ true
unfolding scan_in_range
within_range page s w =
    and_yes _ _ w.sound.range
    (and_yes _ _ (le-leb s.used (room_in s.tokenizer.job.words) w.room)
    (and_yes _ _ (le-leb s.steps (step_bound s.tokenizer.job) (omega (arith, w.paid))) (lines_told s.lines w.lines)))

-- its page is no longer than a page can be
pub page_short : (page : List ℕ) (t : Tokenizer) → Sound page t → length page ≤ page_limit
page_short page t s = omega (arith, s.size, length_short t.job (parts t s.range).job)

-- ---- one step

module _ (page : List ℕ) (s : Scan) (w : Within page s) (r : rests s.tokenizer.state ≡ false) where
  abbrev t : Tokenizer
  t = s.tokenizer

  -- what a step leaves of the tokenizer: it is paid for, whatever the prices
  record Fine (m : Move) : Type 0 where
    sound : Sound page (moved t m)
    pays : (p : Prices) → due p page (moved t m) + price p m.marks ≤ due p page t
    fits : s.used + count_of m.marks ≤ room_in t.job.words

  decided : lacks s (choice page s) ≡ false → Fine (choice page s)
  unfolding choice
  decided e =
      record {
        sound = sound_moved page t w.sound r;
        pays = λ p. falls p page t w.sound r;
        fits = omega (arith, w.room, ltb-false (room_in t.job.words - s.used) (count_of (choice page s).marks) e);
      }

  -- no room: the scan ends where it is
  cut_off : Fine (retry full Nothing)
  unfolding moved is_answer within when◌then◌else◌
  cut_off =
      record {
        sound = sound_ended page t full w.sound refl (omega arith);
        pays = λ p. omega (arith, falls p page t w.sound r, price_least p (decision page t (byte_at page t.at)).marks, due_ended p page (moved t (retry full Nothing)) (omega arith));
        fits = omega (arith, w.room);
      }

  abbrev carried : Move
  carried = carried_out s (choice page s)

  fine : Fine carried
  fine = if_is Move Fine (lacks s (choice page s)) (retry full Nothing) (choice page s) (λ e. cut_off) decided

  -- a step is one less to make
  less_left : left page (moved t carried) + 1 ≤ left page t
  less_left = omega (arith, fine.pays steps, price_step carried.marks)

  -- there is something left to do, so the step is counted
  pub step_counted : (step_scan page s).steps ≡ s.steps + 1
  unfolding step_scan
  step_counted =
      sym (if_yes _ _ _ _ _ (lt-ltb s.steps (step_bound s.tokenizer.job) (omega (arith, less_left, w.paid))) refl)

  pub within_step : Within page (step_scan page s)
  unfolding step_scan moved
  within_step =
      record {
        sound = fine.sound;
        room = fine.fits;
        paid = omega (arith, less_left, w.paid, step_counted);
        written = omega (arith, fine.pays events, price_events carried.marks, w.written);
        lines = step_small page s (carried_out s (choice page s)) (page_short page s.tokenizer w.sound) w.lines;
      }

-- ---- a run

pub within_run : (page : List ℕ) (k : ℕ) (s : Scan) → Within page s → Within page (run_scan page k s)
within_run page = run_keeps page (Within page) (λ s r w. within_step page s w r)

-- each is counted
pub run_counted : (page : List ℕ) (k : ℕ) (s : Scan) → Within page s → (run_scan page k s).steps ≡ s.steps + made page k s
unfolding run_scan made when◌then◌else◌
run_counted page zero s w = omega arith
run_counted page (suc k) s w =
    case _ (rests s.tokenizer.state) (λ e. rw e (omega arith))
    (λ e. rw e (omega (arith, run_counted page k (step_scan page s) (within_step page s w e), step_counted page s w e)))

-- a run with steps enough for what is left comes to rest
pub run_ends : (page : List ℕ) (k : ℕ) (s : Scan) → Within page s → left page s.tokenizer ≤ k → rests (run_scan page k s).tokenizer.state ≡ true
unfolding run_scan step_scan when◌then◌else◌
run_ends page zero s w h =
    case _ (rests s.tokenizer.state) (λ e. e) (λ e. absurd (omega (arith, less_left page s w e)))
run_ends page (suc k) s w h =
    case _ (rests s.tokenizer.state) (λ e. rw e e)
    (λ e. rw e (run_ends page k (step_scan page s) (within_step page s w e) (omega (arith, less_left page s w e))))

-- ---- verdicts

pub within_given : (page : List ℕ) (s : Scan) (v : Verdict) → Within page s → s.tokenizer.state ≡ asking → verdict_in_range v ≡ true → Within page (given_scan s v)
unfolding given_scan
within_given page s v w e h =
    record {
      sound = sound_given page s.tokenizer v w.sound h;
      room = w.room;
      paid = omega (arith, w.paid, due_given steps page s.tokenizer v e);
      written = omega (arith, w.written, due_given events page s.tokenizer v e);
      lines = w.lines;
    }

-- ---- a new scan

pub within_fresh : (page : List ℕ) (j : Job) → job_in_range j ≡ true → length page ≡ j.length → Within page (fresh_scan page j)
unfolding fresh_in
within_fresh page j h l =
    record {
      sound = sound_fresh page j h l;
      room = omega arith;
      paid = omega (arith, steps_fresh page j l);
      written = omega (arith, events_fresh page j l);
      lines = (
        record {
          number = omega (arith, line_within page j.start, start_within j h, length_short j h);
          column = omega (arith, column_within page j.start, start_within j h, length_short j h);
        },
        record { number = omega arith; column = omega arith },
        record { number = omega arith; column = omega arith },
      );
    }

-- ---- a whole scan, with the verdicts that it is given

-- what every step keeps, and every verdict that can be heard, the scan keeps
pub alone_keeps : (page : List ℕ) (k : ℕ) (P : Scan → Type 0) → ((s : Scan) → rests s.tokenizer.state ≡ false → P s → P (step_scan page s))
    → ((s : Scan) (v : Verdict) → verdict_in_range v ≡ true → P s → P (told_scan s v)) → (vs : List Verdict) (s : Scan) → Heard vs → P s → P (run_alone page k vs s)
unfolding run_alone
alone_keeps page k P f g [] s h p = run_keeps page P f k s p
alone_keeps page k P f g (v ∷ vs) s h p = alone_keeps page k P f g vs (told_scan (run_scan page k s) v) h.1 (g (run_scan page k s) v h.0 (run_keeps page P f k s p))

-- what every step keeps, and every verdict that is given, calls keep whose runs are lent this page
module _
    (page : List ℕ) (P : Scan → Type 0)
    (f : (s : Scan) → rests s.tokenizer.state ≡ false → P s → P (step_scan page s))
    (g : (s : Scan) (v : Verdict) → s.tokenizer.state ≡ asking → verdict_in_range v ≡ true → P s → P (given_scan s v))
  where
    pub ran_keeps : (k : ℕ) (s : Scan) (lent : List ℕ) → P s → P (run_of page k s lent).scan
    unfolding run_of when◌then◌else◌
    ran_keeps k s lent h = case _ (runnable s (length page) (length lent) k) (λ e. rw e (run_keeps page P f k s h)) (λ e. rw e h)

    give_keeps : (s : Scan) (v : Verdict) → P s → P (give_of s v).scan
    unfolding give_of givable when◌then◌else◌
    give_keeps s v h =
        case _ (givable s v)
        (λ e. let a = both (eqb s.tokenizer.state asking) _ e in
        rw e (g s v (eqb-true s.tokenizer.state asking a.0) (both (verdict_in_range v) _ a.1).0 h))
        (λ e. rw e h)

    pub calls_keep : (calls : List Call) (s : Scan) (lent : List ℕ) → OverPage page calls → P s → P (scan_after calls s lent)
    calls_keep [] s lent o h = h
    calls_keep (run over k ∷ calls) s lent o h = rw o.0 (calls_keep calls (run_of page k s lent).scan (run_of page k s lent).words o.1 (ran_keeps k s lent h))
    calls_keep (give v ∷ calls) s lent o h = calls_keep calls (give_of s v).scan lent o (give_keeps s v h)

-- what a verdict that is given keeps, a verdict keeps that is told to a scan, asking or not
pub told_keeps : (P : Scan → Type 0) (s : Scan) (v : Verdict) → (s.tokenizer.state ≡ asking → P (given_scan s v)) → P s → P (told_scan s v)
told_keeps P s v f p = if_is Scan P (eqb s.tokenizer.state asking) (given_scan s v) s (λ e. f (eqb-true s.tokenizer.state asking e)) (λ e. p)

pub within_told : (page : List ℕ) (s : Scan) (v : Verdict) → Within page s → verdict_in_range v ≡ true → Within page (told_scan s v)
within_told page s v w h = told_keeps (Within page) s v (λ e. within_given page s v w e h) w

told_steps : (s : Scan) (v : Verdict) → (told_scan s v).steps ≡ s.steps
unfolding given_scan
told_steps s v = told_keeps (λ (r : Scan). r.steps ≡ s.steps) s v (λ e. refl) refl

pub within_alone : (page : List ℕ) (k : ℕ) (vs : List Verdict) (s : Scan) → Heard vs → Within page s → Within page (run_alone page k vs s)
within_alone page k = alone_keeps page k (Within page) (λ s r w. within_step page s w r) (λ s v h w. within_told page s v w h)

pub alone_counted : (page : List ℕ) (k : ℕ) (vs : List Verdict) (s : Scan) → Heard vs → Within page s → (run_alone page k vs s).steps ≡ s.steps + made_alone page k vs s
unfolding run_alone made_alone
alone_counted page k [] s h w = run_counted page k s w
alone_counted page k (v ∷ vs) s h w =
    let r = run_scan page k s in
    let x = within_told page r v (within_run page k s w) h.0 in
    omega (arith, alone_counted page k vs (told_scan r v) h.1 x, told_steps r v, run_counted page k s w)

pub job_kept : (page : List ℕ) (k : ℕ) (s : Scan) → (run_scan page k s).tokenizer.job ≡ s.tokenizer.job
job_kept = run_job

pub told_job : (s : Scan) (v : Verdict) → (told_scan s v).tokenizer.job ≡ s.tokenizer.job
unfolding given_scan
told_job s v = told_keeps (λ (r : Scan). r.tokenizer.job ≡ s.tokenizer.job) s v (λ e. refl) refl

pub alone_job : (page : List ℕ) (k : ℕ) (vs : List Verdict) (s : Scan) → Heard vs → (run_alone page k vs s).tokenizer.job ≡ s.tokenizer.job
alone_job page k vs s h = alone_keeps page k (λ (x : Scan). x.tokenizer.job ≡ s.tokenizer.job) (λ x r e. step_job page x ∙ e) (λ x v g e. told_job x v ∙ e) vs s h refl

pub at_most_eight_a_byte : FewSteps
unfolding fresh_in
at_most_eight_a_byte page j k vs h l vr =
    let w = within_fresh page j h l in
    let c = alone_counted page k vs (fresh_scan page j) vr w in
    let a = within_alone page k vs (fresh_scan page j) vr w in
    let b : step_bound (run_alone page k vs (fresh_scan page j)).tokenizer.job ≡ step_bound j = ap step_bound (alone_job page k vs (fresh_scan page j) vr) in
    (omega (arith, c), omega (arith, c, a.paid, b))
