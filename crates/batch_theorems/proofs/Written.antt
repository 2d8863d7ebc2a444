-- What a record's single call leaves, where it is answered as a record is: the words begin with the events of its scan, as many as the
-- answer carries, and behind them stands what was lent.
use Prim.Native.Nat.{ℕ, ◌+◌, ◌-◌, ◌*◌, ◌≤◌}
use native.Mathlib.Nat.{div-mul-le_self, zero-add}
use native.Mathlib.Omega.{arith}
use mathlib.Core.Path.{◌≡◌, refl, ◌∙◌}
use mathlib.Core.Bool.{true}
use mathlib.Core.List.{List, [], ◌++◌}
use lib.Dec.{leb, ltb}
use lib.ListN.{length, drop}
use lib.Seq.{take-length}
use Rattle.base.proofs.Tables.{◌&◌, found}
use Rattle.base.specs.If.{when◌then◌else◌, among}
use Rattle.base.specs.Table.{find}
use Rattle.base.specs.State.{first_running}
use Rattle.base.proofs.Choice.{if_is}
use Rattle.events.specs.declared.Event.{Event}
use Rattle.events.specs.Words.{width, encode}
use Rattle.events.proofs.Laws.{written_is}
use Rattle.std.specs.Prelude.{Result, Ok, Err}
use Rattle.page.specs.declared.Fault.{Fault}
use Rattle.page.specs.declared.Fault.TheVariants.{TooLong, BadStart, BadText}
use Rattle.page.specs.declared.line.Line.{Line}
use Rattle.page.specs.Page.{page_check}
use Rattle.tokenizer.specs.declared.Job.{Job}
use Rattle.scan.specs.declared.Scan.{Scan}
use Rattle.scan.specs.Answer.{Said, end_answers, page_answers, verdict_answers, verdict_refusal, refusal, answer_of}
use Rattle.scan.specs.Scan.{run_scan, run_events, run_words}
use Rattle.scan.specs.Call.{Left, left, job_of, fresh_in, numbers_listed, Begun, begun_if, begin_of, runnable, run_of, ran_from, single_of}
use Rattle.scan.proofs.Kept.{run_room}
use Rattle.scan.proofs.Pausing.{events_are_counted}
use Rattle.scan_theorems.specs.Counting.{counting_call_answers}
use Rattle.scan_theorems.proofs.Tests.{clash}
use Rattle.batch.specs.declared.Opening.{Opening}
use Rattle.batch.specs.Record as field
use Rattle.batch.specs.Record.{value_in, carried}
use Rattle.batch.specs.Batch.{called}
use Rattle.batch_theorems.specs.Statement.{begun_events, opening_events}

-- the answer is one that a record is given
abbrev Given : Said → Type 0
Given a = among counting_call_answers a.number ≡ true

-- the field of a record that holds the events
abbrev count : Said → ℕ
count a = carried field.events a

-- ---- the events that an answer carries

-- a scan that stands somewhere answers with the events that it counts, wherever a record is answered so
module _ (s : Scan) where
  abbrev Counts : Said → Type 0
  Counts a = Given a → count a ≡ s.used

  answer_counts : Counts (answer_of s)
  unfolding answer_of refusal verdict_refusal among carried value_in find when◌then◌else◌
  answer_counts =
      let n = s.tokenizer.state in
      if_is Said Counts (leb first_running n) _ _ (λ e g. clash _ g refl)
      (λ e.
      found Counts n (end_answers s) _ ((λ k g. refl) & (λ k g. refl) & (λ k g. clash _ g refl) & tt)
      (found Counts n (page_answers s) _ ((λ k g. refl) & (λ k g. refl) & (λ k g. refl) & (λ k g. refl) & tt)
      (found Counts n (verdict_answers s) _ ((λ k g. clash _ g refl) & (λ k g. clash _ g refl) & tt) (λ g. clash _ g refl))))

-- ---- what a call leaves

-- these events are at the front of the lent words, as many as the answer carries
pub record Wrote (lent : List ℕ) (l : Left) (es : List Event) : Type 0 where
  pub counts : count l.answer ≡ length es
  pub fits : length es * width ≤ length lent
  pub hold : l.words ≡ encode es ++ drop (length es * width) lent

module _ (page : List ℕ) (steps : ℕ) (lent : List ℕ) where
  -- nothing is run
  wrote_none : (s : Scan) (a : Said) → count a ≡ 0 → Wrote lent (left s a lent) []
  wrote_none s a e = record { counts = e; fits = omega arith; hold = refl }

  -- a new scan is run; where it is refused, the answer is no record's
  module _ (s : Scan) (u : s.used ≡ 0) (w : s.tokenizer.job.words ≡ length lent) where
    abbrev es : List Event
    es = run_events page steps s

    ran : Left
    ran = left (run_scan page steps s) (answer_of (run_scan page steps s)) (run_words page steps s lent)

    ran_wrote : Given ran.answer → Wrote lent ran es
    unfolding ran
    ran_wrote g =
        let n = events_are_counted page steps s in
        let room = run_room page steps (length lent) s w (omega (arith, u)) in
        let fits : length es * width ≤ length lent = omega (arith, n, u, room, div-mul-le_self (length lent) width) in
        record {
          counts = omega (arith, answer_counts (run_scan page steps s) g, n, u);
          fits = fits;
          hold = written_is lent s.used es (omega (arith, u, fits)) ∙ rw (u, zero-add);
        }

    wrote_run : Given (run_of page steps s lent).answer → Wrote lent (run_of page steps s lent) es
    unfolding run_of ran among
    wrote_run =
        if_is Left (λ (l : Left). Given l.answer → Wrote lent l es) (runnable s (length page) (length lent) steps) _ _ (λ e g. ran_wrote g)
        (λ e g. clash _ g refl)

  -- what is begun is run
  abbrev Writes : Begun → Type 0
  Writes b = Given (ran_from b page steps lent).answer → Wrote lent (ran_from b page steps lent) (begun_events page steps b)

  wrote_checked : (j : Job) → j.words ≡ length lent → (c : Result Line Fault) → Writes (begun_if c j)
  unfolding fresh_in carried value_in find when◌then◌else◌
  wrote_checked j w (Ok line) g = wrote_run (fresh_in line j) refl w g
  wrote_checked j w (Err TooLong) g = wrote_none _ _ refl
  wrote_checked j w (Err BadStart) g = wrote_none _ _ refl
  wrote_checked j w (Err (BadText p)) g = wrote_none _ _ refl

  wrote_begun : (bytes : List ℕ) (at n start construct kind flags : ℕ) → Writes (begin_of bytes at n start construct kind flags (length lent))
  unfolding begin_of among
  wrote_begun bytes at n start construct kind flags =
      if_is Begun Writes (numbers_listed construct kind flags) _ _ (λ l. wrote_checked (job_of construct kind flags n start (length lent)) refl (page_check bytes at n start))
      (λ l g. clash _ g refl)

-- ---- a record

module _ (page : List ℕ) (o : Opening) (lent : List ℕ) where
  abbrev steps : ℕ
  steps = 8 * (length page - o.start + 1)

  abbrev begun : Begun
  begun = begin_of page 0 (length page) o.start o.construct o.kind o.flags (length lent)

  pub call_writes : Given (called page o lent).answer → Wrote lent (called page o lent) (opening_events page o (length lent))
  unfolding single_of opening_events among
  call_writes =
      if_is Left (λ (l : Left). Given l.answer → Wrote lent l (begun_events page steps begun)) (ltb 0 steps) _ _
      (λ e. rw (take-length page) (wrote_begun page steps lent page 0 (length page) o.start o.construct o.kind o.flags))
      (λ e g. clash _ g refl)
