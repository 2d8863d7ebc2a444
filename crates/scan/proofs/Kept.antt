-- The events of a scan stay: after any calls the lent words are the calls' events, followed by what was lent.
use Prim.Native.Nat.{ℕ, ◌+◌, ◌-◌, ◌*◌, ◌≤◌}
use native.Mathlib.Omega.{arith}
use mathlib.Core.Path.{◌≡◌, refl, sym, ap, ap₂, ◌∙◌}
use mathlib.Core.List.{List, [], ◌∷◌, ◌++◌, append_assoc, append-nil}
use lib.ListN.{length, take, drop, length-append, length-drop}
use lib.Seq.{take_at, drop-append-add, drop-drop}
use borrow.Author.Tests.{ltb-false}
use Rattle.base.specs.If.{when◌then◌else◌}
use Rattle.base.proofs.Choice.{if_is, case}
use Rattle.base.specs.State.{full}
use Rattle.base.specs.Decide.{retry, count_of}
use Rattle.base.specs.declared.Marks.TheVariants.{Nothing}
use Rattle.base.specs.declared.Move.{Move}
use Rattle.base.specs.declared.Verdict.{Verdict}
use Rattle.events.specs.declared.Event.{Event}
use Rattle.events.specs.Words.{width, room_in, encode, events_in}
use Rattle.events.proofs.Laws.{encode_long, encode_append, written_is, encoded_read}
use Rattle.tokenizer.specs.declared.Job.{Job}
use Rattle.tokenizer.specs.Moved.{moved}
use Rattle.scan.specs.declared.Scan.{Scan}
use Rattle.scan.specs.Scan.{choice, lacks, step_scan, run_scan, run_events, run_words}
use Rattle.scan.specs.Call.{fresh_in, givable, given_scan, give_of, runnable, run_of}
use Rattle.scan.specs.Statement.{Call, run, give, call_of, scan_after, words_after, call_events, events_after, Holds, EventsStay, EventsRead}
use Rattle.scan.proofs.Pausing.{events_are_counted}
use Rattle.scan.proofs.Runs.{run_keeps}
use Rattle.scan.proofs.Begun.{begins}

-- ---- a scan never counts more events than there is room for

pub step_job : (page : List ℕ) (s : Scan) → (step_scan page s).tokenizer.job ≡ s.tokenizer.job
unfolding step_scan moved
step_job page s = refl

pub run_job : (page : List ℕ) (k : ℕ) (s : Scan) → (run_scan page k s).tokenizer.job ≡ s.tokenizer.job
run_job page k s = run_keeps page (λ (x : Scan). x.tokenizer.job ≡ s.tokenizer.job) (λ x r e. step_job page x ∙ e) k s refl

step_room : (page : List ℕ) (s : Scan) → s.used ≤ room_in s.tokenizer.job.words → (step_scan page s).used ≤ room_in s.tokenizer.job.words
unfolding step_scan
step_room page s h =
    if_is Move (λ (m : Move). s.used + count_of m.marks ≤ room_in s.tokenizer.job.words) (lacks s (choice page s)) (retry full Nothing) (choice page s)
    (λ e. omega (arith, h))
    (λ e. omega (arith, h, ltb-false (room_in s.tokenizer.job.words - s.used) (count_of (choice page s).marks) e))

pub run_room : (page : List ℕ) (k w : ℕ) (s : Scan) → s.tokenizer.job.words ≡ w → s.used ≤ room_in w → (run_scan page k s).used ≤ room_in w
run_room page k w s e h =
    (run_keeps page (λ (x : Scan). (x.tokenizer.job.words ≡ w) × (x.used ≤ room_in w))
    (λ x r p. (ap (λ (j : Job). j.words) (step_job page x) ∙ p.0, omega (arith, step_room page x (omega (arith, p.0, p.1)), p.0)))
    k s (e, h)).1

-- ---- what a call leaves

-- the events are there, and the scan is one of the lent words
record Stands (lent : List ℕ) (s : Scan) (words : List ℕ) (events : List Event) : Type 0 where
  holds : Holds lent s words events
  job : s.tokenizer.job.words ≡ length lent
  room : s.used ≤ room_in (length lent)

module _ (lent : List ℕ) (s : Scan) (words : List ℕ) (events : List Event) (h : Stands lent s words events) where
  -- a run
  module _ (page : List ℕ) (k : ℕ) where
    abbrev more : List Event
    more = run_events page k s

    ran : Stands lent (run_scan page k s) (run_words page k s words) (events ++ more)
    ran =
        let c = h.holds.count in
        let n = events_are_counted page k s in
        let r = run_room page k (length lent) s h.job h.room in
        let l = encode_long events in
        let lw : length words ≡ length lent =
        ap length h.holds.hold ∙ omega (arith, length-append (encode events) (drop (length events * width) lent), l, length-drop (length events * width) lent, h.holds.fits) in
        let la = length-append events more in
        let rest = drop (length events * width) lent in
        let front : take (s.used * width) words ≡ encode events =
        ap (take (s.used * width)) h.holds.hold ∙ take_at (encode events) rest (s.used * width) (omega (arith, l, c)) in
        let behind : (s.used + length more) * width ≡ length (encode events) + length more * width = omega (arith, l, c) in
        let all : length events * width + length more * width ≡ length (events ++ more) * width = omega (arith, la) in
        let back : drop ((s.used + length more) * width) words ≡ drop (length (events ++ more) * width) lent =
        ap (λ (w : List ℕ). drop ((s.used + length more) * width) w) h.holds.hold
        ∙ ap (λ (i : ℕ). drop i (encode events ++ rest)) behind
        ∙ drop-append-add (encode events) rest (length more * width)
        ∙ drop-drop (length more * width) (length events * width) lent
        ∙ ap (λ (i : ℕ). drop i lent) all in
        record {
          holds = record {
            count = omega (arith, n, c, la);
            hold = written_is words s.used more (omega (arith, lw, n, r))
                ∙ ap₂ (λ (a b : List ℕ). a ++ encode more ++ b) front back
                ∙ ap (λ (a : List ℕ). a ++ drop (length (events ++ more) * width) lent) (sym (encode_append events more));
            fits = omega (arith, la, n, r, c);
          };
          job = ap (λ (j : Job). j.words) (run_job page k s) ∙ h.job;
          room = r;
        }

    after_run : Stands lent (run_of page k s words).scan (run_of page k s words).words (events ++ call_events (run page k) s words)
    unfolding run_of when◌then◌else◌
    after_run = case _ (runnable s (length page) (length words) k) (λ e. rw e ran) (λ e. rw (e, append-nil) h)

  after_give : (v : Verdict) → Stands lent (give_of s v).scan words (events ++ [])
  unfolding give_of given_scan when◌then◌else◌
  after_give v =
      case _ (givable s v)
      (λ e. rw (e, append-nil) (record { holds = record { count = h.holds.count; hold = h.holds.hold; fits = h.holds.fits }; job = h.job; room = h.room }))
      (λ e. rw (e, append-nil) h)

  after_call : (c : Call) → Stands lent (call_of c s words).scan (call_of c s words).words (events ++ call_events c s words)
  after_call (run page k) = after_run page k
  after_call (give v) = after_give v

after_calls : (lent : List ℕ) (calls : List Call) (s : Scan) (words : List ℕ) (events : List Event) → Stands lent s words events
    → Stands lent (scan_after calls s words) (words_after calls s words) (events ++ events_after calls s words)
after_calls lent [] s words events h = rw append-nil h
after_calls lent (c ∷ cs) s words events h =
    rw (← append_assoc) (after_calls lent cs (call_of c s words).scan (call_of c s words).words (events ++ call_events c s words) (after_call lent s words events h c))

pub events_stay : EventsStay
unfolding fresh_in
events_stay bytes at n start construct kind flags lent s e calls =
    let f = (begins bytes at n start construct kind flags (length lent) s e).fresh in
    (after_calls lent calls s lent []
    (rw f (record { holds = record { count = refl; hold = refl; fits = omega arith }; job = refl; room = omega arith }))).holds

pub events_are_read : EventsRead
events_are_read lent s words events h =
    ap₂ (λ (l : List ℕ) (k : ℕ). events_in l 0 k) h.hold h.count ∙ encoded_read events (drop (length events * width) lent)
