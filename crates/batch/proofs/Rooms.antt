-- The room that a record's call leaves: it writes no more events than fit behind those of the earlier ones, and as many words are lent
-- afterwards as before. So the next one stands inside the words too.
use Prim.Native.Nat.{ℕ, ◌+◌, ◌-◌, ◌*◌, ◌≤◌}
use native.Mathlib.Nat.{div-mul-le_self}
use native.Mathlib.Omega.{arith}
use mathlib.Core.Path.{◌≡◌, refl}
use mathlib.Core.List.{List}
use lib.Dec.{ltb, leb}
use lib.ListN.{length, take, drop, length-append, length-drop}
use lib.Seq.{length-take-le}
use Rattle.base.specs.If.{when◌then◌else◌}
use Rattle.base.specs.Table.{find}
use Rattle.base.specs.State.{first_running}
use Rattle.base.proofs.Choice.{if_is}
use Rattle.base.proofs.Tables.{◌&◌, found}
use Rattle.events.specs.Words.{width, room_in}
use Rattle.events.proofs.Laws.{written_long}
use Rattle.std.specs.Prelude.{Result, Ok, Err}
use Rattle.page.specs.declared.Fault.{Fault}
use Rattle.page.specs.declared.Fault.TheVariants.{TooLong, BadStart, BadText}
use Rattle.page.specs.declared.line.Line.{Line}
use Rattle.page.specs.Page.{page_of, page_check}
use Rattle.tokenizer.specs.declared.Job.{Job}
use Rattle.scan.specs.declared.Scan.{Scan}
use Rattle.scan.specs.Answer.{Said, end_answers, page_answers, verdict_answers, verdict_refusal, refusal, answer_of, refused}
use Rattle.scan.specs.Scan.{run_scan, run_events}
use Rattle.scan.specs.Call.{Left, left, job_of, fresh_in, numbers_listed, no_scan, Begun, begun_if, begin_of, runnable, run_of, ran_from, single_of}
use Rattle.scan.proofs.Kept.{run_room}
use Rattle.batch.specs.declared.Opening.{Opening}
use Rattle.batch.specs.Record as field
use Rattle.batch.specs.Record.{value_in, carried, filled_of}
use Rattle.batch.specs.Batch.{called, record_of, words_of}

-- ---- the events that an answer carries

-- the field of a record that holds the events
abbrev count : Said → ℕ
count a = carried field.events a

no_more : (n : ℕ) → n ≤ n
no_more n = omega arith

none : (n : ℕ) → 0 ≤ n
none n = omega arith

-- a scan that stands somewhere answers with the events that it counts, or with none
module _ (s : Scan) where
  abbrev n : ℕ
  n = s.used

  abbrev Few : Said → Type 0
  Few a = count a ≤ n

  few_refused : (m : ℕ) → count refused ≤ m
  unfolding carried value_in find when◌then◌else◌
  few_refused m = none m

  few_events : Few (answer_of s)
  unfolding answer_of refusal verdict_refusal carried value_in find when◌then◌else◌
  few_events =
      let k = s.tokenizer.state in
      if_is Said Few (leb first_running k) _ _ (λ e. none n)
      (λ e.
      found Few k (end_answers s) _ ((λ t. no_more n) & (λ t. no_more n) & (λ t. none n) & tt)
      (found Few k (page_answers s) _ ((λ t. no_more n) & (λ t. no_more n) & (λ t. no_more n) & (λ t. no_more n) & tt)
      (found Few k (verdict_answers s) _ ((λ t. none n) & (λ t. none n) & tt) (none n))))

-- ---- what a single call leaves

-- as many words as were lent, and no more events than fit in them
pub record Keeps (words : List ℕ) (l : Left) : Type 0 where
  pub long : length l.words ≡ length words
  pub few : count l.answer ≤ room_in (length words)

module _ (bytes : List ℕ) (at n start construct kind flags allowance : ℕ) (words : List ℕ) where
  abbrev page : List ℕ
  page = page_of bytes at n

  abbrev job : Job
  job = job_of construct kind flags n start (length words)

  -- nothing is run
  keeps_none : (s : Scan) (a : Said) → count a ≡ 0 → Keeps words (left s a words)
  keeps_none s a e = record { long = refl; few = omega (arith, e) }

  keeps_refused : (s : Scan) → Keeps words (left s refused words)
  unfolding carried value_in find when◌then◌else◌
  keeps_refused s = keeps_none s refused refl

  keeps_run : (s : Scan) → s.used ≡ 0 → s.tokenizer.job.words ≡ length words → Keeps words (run_of page allowance s words)
  unfolding run_of
  keeps_run s u w =
      if_is Left (Keeps words) (runnable s (length page) (length words) allowance) _ _
      (λ e.
      let r = run_room page allowance (length words) s w (omega (arith, u)) in
      record { long = written_long words s.used (run_events page allowance s); few = omega (arith, r, few_events (run_scan page allowance s)) })
      (λ e. keeps_refused s)

  keeps_checked : (c : Result Line Fault) → Keeps words (ran_from (begun_if c job) page allowance words)
  unfolding fresh_in carried value_in find when◌then◌else◌
  keeps_checked (Ok line) = keeps_run (fresh_in line job) refl refl
  keeps_checked (Err TooLong) = keeps_none _ _ refl
  keeps_checked (Err BadStart) = keeps_none _ _ refl
  keeps_checked (Err (BadText p)) = keeps_none _ _ refl

  pub single_keeps : Keeps words (single_of bytes at n start construct kind flags allowance words)
  unfolding single_of begin_of
  single_keeps =
      if_is Left (Keeps words) (ltb 0 allowance) _ _
      (λ e.
      if_is Begun (λ (b : Begun). Keeps words (ran_from b page allowance words)) (numbers_listed construct kind flags) _ _
      (λ l. keeps_checked (page_check bytes at n start))
      (λ l. keeps_refused no_scan))
      (λ e. keeps_refused no_scan)

-- ---- a turn

module _ (page words : List ℕ) (o : Opening) (used : ℕ) (h : used * width ≤ length words) where
  abbrev rest : List ℕ
  rest = drop (used * width) words

  keeps : Keeps rest (called page o rest)
  keeps = single_keeps page 0 (length page) o.start o.construct o.kind o.flags (8 * (length page - o.start + 1)) rest

  -- the record's events are those of its answer
  counted : (record_of page o used words).events ≡ count (called page o rest).answer
  unfolding filled_of
  counted = refl

  pub words_long : length (words_of page o used words) ≡ length words
  words_long = omega (arith, h, length-append (take (used * width) words) (called page o rest).words, length-take-le (used * width) words h, keeps.long, length-drop (used * width) words)

  pub events_fit : (used + (record_of page o used words).events) * width ≤ length words
  events_fit =
      let room : room_in (length rest) * width ≤ length rest = div-mul-le_self (length rest) width in
      omega (arith, h, counted, keeps.few, length-drop (used * width) words, room)
