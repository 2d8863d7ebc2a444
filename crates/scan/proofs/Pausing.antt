-- Pausing changes nothing: however a run is cut into allowances, it ends in the same scan with the same events and words.
use Prim.Native.Nat.{ℕ, zero, suc, ◌+◌}
use native.Mathlib.Omega.{arith}
use native.Mathlib.Nat.{zero-add, suc-add, add-zero}
use mathlib.Core.Path.{◌≡◌, refl, sym, ap, ◌∙◌}
use mathlib.Core.List.{List, [], ◌∷◌, ◌++◌, append_assoc}
use lib.ListN.{length-append}
use Rattle.base.specs.If.{when◌then◌else◌}
use Rattle.base.proofs.Choice.{case}
use Rattle.base.specs.State.{rests}
use Rattle.events.specs.declared.Event.{Event}
use Rattle.events.specs.Words.{written}
use Rattle.events.proofs.Laws.{written_append, written_none}
use Rattle.scan.specs.declared.Scan.{Scan}
use Rattle.scan.specs.Scan.{step_scan, step_events, run_scan, run_events, run_words}
use Rattle.scan.specs.Statement.{EventsJoin, EventsCount}
use Rattle.scan.proofs.Runs.{run_rest, events_rest, step_count}

-- the count is the list's length
pub events_are_counted : EventsCount
unfolding run_scan run_events when◌then◌else◌
events_are_counted page zero s = rw add-zero
events_are_counted page (suc k) s =
    case _ (rests s.tokenizer.state) (λ e. rw (e, add-zero))
    (λ e. rw e (omega (arith, events_are_counted page k (step_scan page s), step_count page s, length-append (step_events page s) (run_events page k (step_scan page s)))))

-- two allowances, one after the other, are their sum
module _ (page : List ℕ) (k : ℕ) where
  pub run_add : (j : ℕ) (s : Scan) → run_scan page (j + k) s ≡ run_scan page k (run_scan page j s)
  unfolding run_scan when◌then◌else◌
  run_add zero s = rw zero-add
  run_add (suc j) s =
      case _ (rests s.tokenizer.state) (λ e. rw (suc-add, e) (sym (run_rest page s k e))) (λ e. rw (suc-add, e) (run_add j (step_scan page s)))

  pub events_add : (j : ℕ) (s : Scan) → run_events page (j + k) s ≡ run_events page j s ++ run_events page k (run_scan page j s)
  unfolding run_scan run_events when◌then◌else◌
  events_add zero s = rw zero-add
  events_add (suc j) s =
      case _ (rests s.tokenizer.state) (λ e. rw (suc-add, e) (sym (events_rest page s k e)))
      (λ e. rw (suc-add, e) (ap (λ (l : List Event). step_events page s ++ l) (events_add j (step_scan page s)) ∙ sym (append_assoc (step_events page s) _ _)))

  pub words_add : (j : ℕ) (s : Scan) (words : List ℕ) → run_words page (j + k) s words ≡ run_words page k (run_scan page j s) (run_words page j s words)
  words_add j s words =
      ap (written words s.used) (events_add j s)
      ∙ sym (written_append words s.used (run_events page j s) (run_events page k (run_scan page j s)))
      ∙ ap (λ (n : ℕ). written (run_words page j s words) n (run_events page k (run_scan page j s))) (sym (events_are_counted page j s))

pub events_of_two_runs_join : EventsJoin
events_of_two_runs_join page j k s = events_add page k j s

-- a run cut into allowances, the scan and the words handed on from each to the next
abbrev pub cut_scan : List ℕ → List ℕ → Scan → Scan
cut_scan page [] s = s
cut_scan page (k ∷ ks) s = cut_scan page ks (run_scan page k s)

abbrev pub cut_words : List ℕ → List ℕ → Scan → List ℕ → List ℕ
cut_words page [] s words = words
cut_words page (k ∷ ks) s words = cut_words page ks (run_scan page k s) (run_words page k s words)

abbrev pub total : List ℕ → ℕ
total [] = 0
total (k ∷ ks) = k + total ks

pub pausing_changes_nothing : (page ks : List ℕ) (s : Scan) (words : List ℕ) → (cut_scan page ks s ≡ run_scan page (total ks) s) × (cut_words page ks s words ≡ run_words page (total ks) s words)
unfolding run_scan run_events
pausing_changes_nothing page [] s words = (refl, sym (written_none words s.used))
pausing_changes_nothing page (k ∷ ks) s words =
    let h = pausing_changes_nothing page ks (run_scan page k s) (run_words page k s words) in
    (h.0 ∙ sym (run_add page (total ks) k s), h.1 ∙ sym (words_add page (total ks) k s words))
