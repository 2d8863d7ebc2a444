-- A turn of a worker in range, over a buffer of its length and bytes in which every running page lies: it is not refused, and the place
-- that is served makes the single scan's own run.
use Prim.Native.Nat.{ℕ, ◌+◌, ◌*◌, ◌≤◌, ◌<◌}
use native.Mathlib.Omega.{arith}
use native.Mathlib.Decide.{dec_lt}
use mathlib.Core.Path.{◌≡◌, refl, sym, ap, ap₂, ◌∙◌, subst}
use mathlib.Core.Logic.{by_cases}
use mathlib.Core.Bool.{true, false}
use mathlib.Core.List.{List, [], ◌∷◌}
use lib.ListN.{length, drop, length-drop}
use lib.Seq.{length-take-le}
use lib.Dec.{leb, eqb}
use borrow.Author.Tests.{eq-eqb, lt-ltb}
use Rattle.base.specs.If.{when◌then◌else◌}
use Rattle.base.proofs.Choice.{case, and_yes, both}
use Rattle.base.specs.Number as number
use Rattle.base.specs.State.{first_running}
use Rattle.events.specs.Share.{share_of, share_in, with_share}
use Rattle.events.proofs.Laws.{written_long}
use Rattle.events.proofs.Shares.{length_with_share}
use Rattle.scan.specs.declared.Scan.{Scan}
use Rattle.scan.specs.Answer.{said}
use Rattle.scan.specs.Scan.{run_scan, run_events, run_words}
use Rattle.scan.specs.Call.{scan_in_range, runnable, run_of}
use Rattle.scan_theorems.proofs.Tests.{clash}
use Rattle.worker.specs.declared.Place.{Place}
use Rattle.worker.specs.declared.Worker.{Worker}
use Rattle.worker.specs.Place.{place_of, place_in, running, next_in, stored, place_in_range}
use Rattle.worker.specs.Reply.{Left, left}
use Rattle.worker.specs.Ring.{after, places}
use Rattle.worker.specs.Worker.{page_in, lies_in, run_at, served_at, ready, turn_of}
use Rattle.worker.proofs.Laws.{part_fits, lies, idle_here, served_here}
use Rattle.worker_theorems.proofs.Ranged.{Ranged, ranged_own, range_parts}
use Rattle.worker_theorems.proofs.Ring.{seek_holds}
use Rattle.worker_theorems.proofs.Views.{view_turn}

-- the run of a scan that is ready is taken
takes : (page : List ℕ) (n : ℕ) (s : Scan) (words : List ℕ) → 1 ≤ n → leb first_running s.tokenizer.state ≡ true → length page ≡ s.tokenizer.job.length → length words ≡ s.tokenizer.job.words → scan_in_range s ≡ true
    → ((run_of page n s words).scan ≡ run_scan page n s) × ((run_of page n s words).words ≡ run_words page n s words)
unfolding run_of runnable when◌then◌else◌
takes page n s words h r lp lw g =
    let t : runnable s (length page) (length words) n ≡ true =
    and_yes _ _ (lt-ltb 0 n h) (and_yes _ _ r (and_yes _ _ (eq-eqb (length page) _ lp) (and_yes _ _ (eq-eqb (length words) _ lw) g))) in
    (rw t, rw t)

-- a run leaves the words as long as they were, also where it is refused
run_long : (page : List ℕ) (n : ℕ) (s : Scan) (words : List ℕ) → length (run_of page n s words).words ≡ length words
unfolding run_of when◌then◌else◌
run_long page n s words = case _ (runnable s (length page) (length words) n) (λ e. rw e (written_long words s.used (run_events page n s))) (λ e. rw e)

module _ (w : Worker) (lent : List ℕ) (el : length lent ≡ w.words) where
  abbrev size : ℕ
  size = share_of w.words

  pub share_fits : (k : ℕ) → k < places → k * size + size ≤ length lent
  share_fits k hk = omega (arith, part_fits k w.words size hk refl)

  pub share_long : (k : ℕ) → k < places → length (share_in size k lent) ≡ size
  share_long k hk = length-take-le size (drop (k * size) lent) (omega (arith, length-drop (k * size) lent, share_fits k hk))

-- the buffer that a turn leaves is as long as it was
pub turn_long : (w : Worker) (bytes lent : List ℕ) → length (turn_of bytes w lent).memory ≡ length lent
unfolding served_at
turn_long w bytes lent =
    view_turn (λ (l : Left). length l.memory ≡ length lent) w bytes lent refl refl
    (λ k hk el o run re.
    let p = place_in w.places k in
    let share = share_in (share_of w.words) k lent in
    length_with_share lent (share_of w.words) k (run_at k bytes w lent).words (share_fits w lent el k hk) (run_long (page_in p bytes) w.q p.scan share ∙ share_long w lent el k hk))

-- a turn that serves a place was lent a buffer of the worker's length
pub served_length : (w : Worker) (bytes lent : List ℕ) → eqb (turn_of bytes w lent).answer.number number.served ≡ true → length lent ≡ w.words
unfolding served_at
served_length w bytes lent =
    view_turn (λ (l : Left). eqb l.answer.number number.served ≡ true → length lent ≡ w.words) w bytes lent (λ e. clash false e refl) (λ e. clash false e refl)
    (λ k hk el o run re e. el)

module _ (len q : ℕ) (w : Worker) (r : Ranged len q w) (bytes lent : List ℕ) (el : length lent ≡ w.words) where
  -- what serving place k leaves
  abbrev pub served : ℕ → Left
  served k =
      let p = place_in w.places k in
      let n = share_of w.words in
      left (stored w k (place_of true p.at (run_scan (page_in p bytes) w.q p.scan)) k) (said number.served (k ∷ []))
      (with_share lent n k (run_words (page_in p bytes) w.q p.scan (share_in n k lent)))

  module _ (k : ℕ) (hk : k < places) (run : running (place_in w.places k) ≡ true) (inside : lies_in (place_in w.places k) (length bytes) ≡ true) where
    abbrev p : Place
    p = place_in w.places k

    in_range : place_in_range (share_of w.words) p ≡ true
    in_range = ap (λ (n : ℕ). place_in_range (share_of n) p) r.lent ∙ r.each k hk (both p.taken _ run).0

    ready_at : ready p (length bytes) (share_of w.words) ≡ true
    ready_at = and_yes _ _ inside in_range

    page_long : length (page_in p bytes) ≡ p.scan.tokenizer.job.length
    page_long = length-take-le p.scan.tokenizer.job.length (drop p.at bytes) (omega (arith, length-drop p.at bytes, lies p (length bytes) inside))

    served_is : served k ≡ served_at k bytes w lent
    unfolding served_at
    served_is =
        let n = share_of w.words in
        let a = range_parts n p in_range in
        let t = takes (page_in p bytes) w.q p.scan (share_in n k lent) (omega (arith, r.turns, r.some)) (both p.taken _ run).1 page_long (share_long w lent el k hk ∙ sym a.0) a.1 in
        sym (ap₂ (λ (x : Scan) (y : List ℕ). left (stored w k (place_of true p.at x) k) (said number.served (k ∷ [])) (with_share lent n k y)) t.0 t.1)

  -- it is idle, or serves the next running place
  pub fair_turn : (P : Left → Type 0) → ((k : ℕ) → k < places → running (place_in w.places k) ≡ true → lies_in (place_in w.places k) (length bytes) ≡ true)
      → (places ≤ next_in w.places w.last → P (left w (said number.idle []) lent))
      → ((k : ℕ) → k ≡ next_in w.places w.last → k < places → running (place_in w.places k) ≡ true → P (served k))
      → P (turn_of bytes w lent)
  fair_turn P inside idle serves =
      let k = next_in w.places w.last in
      by_cases (dec_lt k places)
      (λ (h : k < places).
      let run : running (place_in w.places k) ≡ true = seek_holds (λ j. running (place_in w.places j)) places (after w.last) h in
      let i = inside k h run in
      subst P (served_is k h run i ∙ served_here bytes w lent el (ranged_own len q w r) k refl (share_of w.words) refl h (ready_at k h run i)) (serves k refl h run))
      (λ (h : k < places → ⊥).
      let l : places ≤ k = omega arith in
      subst P (idle_here bytes w lent el (ranged_own len q w r) k refl l) (idle l))
