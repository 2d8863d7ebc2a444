-- A scan without a verdict source over one page, in calls: it never asks, so no verdict is heard, and its runs make one.
use Prim.Native.Nat.{ℕ, ◌+◌}
use mathlib.Core.Path.{◌≡◌, refl, sym, ap, ◌∙◌}
use mathlib.Core.Bool.{true, false}
use mathlib.Core.List.{List, [], ◌∷◌, ◌++◌}
use lib.Dec.{eqb}
use lib.ListN.{length}
use borrow.Author.Tests.{eqb-true, le-leb, ltb-false}
use Rattle.base.specs.If.{when◌then◌else◌}
use Rattle.base.proofs.Choice.{case, and_no}
use Rattle.base.specs.Number as number
use Rattle.base.specs.State as state
use Rattle.base.specs.State.{rests}
use Rattle.base.specs.declared.Verdict.{Verdict}
use Rattle.events.specs.declared.Event.{Event}
use Rattle.scan.specs.declared.Scan.{Scan}
use Rattle.scan.specs.Answer.{answer_of}
use Rattle.scan.specs.Scan.{run_scan, run_events, run_words}
use Rattle.scan.specs.Call.{runnable, run_of, givable, give_of}
use Rattle.scan.specs.Statement.{Call, run, give, scan_after, events_after}
use Rattle.scan.proofs.Pausing.{run_add, events_add}
use Rattle.scan.proofs.Runs.{run_keeps}
use Rattle.scan_theorems.specs.Lines.{OverPage}
use Rattle.scan_theorems.proofs.Tests.{clash}
use Rattle.scan_theorems.proofs.Unasked.{needs_verdict}
use Rattle.scan_theorems.proofs.Counting.{Silent, silent_step}

-- so many steps of the scan give what the calls give
pub record OneRun (page : List ℕ) (s after : Scan) (written : List Event) : Type 0 where
  pub steps : ℕ
  pub scan : after ≡ run_scan page steps s
  pub events : written ≡ run_events page steps s

module _ (page : List ℕ) where
  -- a scan that does not ask hears nothing
  unheard : (s : Scan) (v : Verdict) → Silent page s → givable s v ≡ false
  unfolding givable
  unheard s v h =
      and_no (eqb s.tokenizer.state state.asking) _
      (case _ (eqb s.tokenizer.state state.asking) (λ e. clash (needs_verdict s.tokenizer.state) (rw (eqb-true s.tokenizer.state state.asking e) refl) h.counts.free) (λ e. e))

  -- what calls give from a scan on
  unfoldable pub Runs : List Call → Scan → List ℕ → Type 0
  Runs calls s lent = OneRun page s (scan_after calls s lent) (events_after calls s lent)

  no_calls : (s : Scan) (lent : List ℕ) → Runs [] s lent
  unfolding Runs run_scan run_events
  no_calls s lent = record { steps = 0; scan = refl; events = refl }

  -- a run that is refused makes no step
  run_first : (k : ℕ) (calls : List Call) (s : Scan) (lent : List ℕ) → Silent page s → ((x : Scan) (words : List ℕ) → Silent page x → Runs calls x words) → Runs (run page k ∷ calls) s lent
  unfolding Runs run_of when◌then◌else◌
  run_first k calls s lent h rest =
      case _ (runnable s (length page) (length lent) k)
      (λ e.
      let r = rest (run_scan page k s) (run_words page k s lent) (run_keeps page (Silent page) (silent_step page) k s h) in
      rw e
      (record {
        steps = k + r.steps;
        scan = r.scan ∙ sym (run_add page r.steps k s);
        events = ap (λ (l : List Event). run_events page k s ++ l) r.events ∙ sym (events_add page r.steps k s);
      }))
      (λ e. rw e (rest s lent h))

  give_first : (v : Verdict) (calls : List Call) (s : Scan) (lent : List ℕ) → Silent page s → Runs calls s lent → Runs (give v ∷ calls) s lent
  unfolding Runs give_of when◌then◌else◌
  give_first v calls s lent h r = rw (unheard s v h) r

  pub one_run : (calls : List Call) (s : Scan) (lent : List ℕ) → OverPage page calls → Silent page s → Runs calls s lent
  one_run [] s lent o h = no_calls s lent
  one_run (run over k ∷ calls) s lent o h = rw o.0 (run_first k calls s lent h (λ x words k. one_run calls x words o.1 k))
  one_run (give v ∷ calls) s lent o h = give_first v calls s lent h (one_run calls s lent o h)

-- a scan that is not paused rests
pub not_paused : (s : Scan) → ((answer_of s).number ≡ number.paused → ⊥) → rests s.tokenizer.state ≡ true
unfolding answer_of when◌then◌else◌
not_paused s h =
    case _ (rests s.tokenizer.state) (λ e. e)
    (λ e. absurd (h (rw (le-leb state.first_running s.tokenizer.state (ltb-false s.tokenizer.state state.first_running e)) refl)))
