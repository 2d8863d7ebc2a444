-- What a call can come to, of any worker: whatever holds of each case holds of the call.
use Prim.Native.Nat.{ℕ, ◌<◌}
use native.Mathlib.Omega.{arith}
use mathlib.Core.Path.{◌≡◌, refl, sym, ap, ◌∙◌, subst}
use mathlib.Core.Bool.{true, false, not}
use mathlib.Core.List.{List, [], ◌∷◌}
use lib.ListN.{length, get_or, set}
use lib.Seq.{set-get_or}
use lib.Dec.{eqb}
use borrow.Author.Tests.{leb-false, eqb-true}
use Rattle.base.specs.If.{when◌then◌else◌, among}
use Rattle.base.proofs.Choice.{if_is, case, both, not_yes}
use Rattle.base.specs.Number as number
use Rattle.base.specs.declared.Verdict.{Verdict}
use Rattle.events.specs.Share.{share_of}
use Rattle.scan.specs.declared.Scan.{Scan}
use Rattle.scan.specs.Answer.{Said, said, answer_of}
use Rattle.scan.specs.Call.{Begun, started, not_started, begin_of, givable, given_scan, give_of}
use Rattle.scan_theorems.proofs.Calls.{not_begun}
use Rattle.scan_theorems.proofs.Tests.{clash}
use Rattle.worker.specs.declared.Place.{Place}
use Rattle.worker.specs.declared.Worker.{Worker}
use Rattle.worker.specs.Place.{place_of, free_place, beyond, place_in, running, ended, next_in, lowest_in, stored, worker_in_range, holds}
use Rattle.worker.specs.Reply.{Left, left, refusing}
use Rattle.worker.specs.Ring.{after}
use Rattle.worker.specs.Worker.{placed_by, admit_of, given_by, verdict_of, collect_call, ready, served_at, turn_at, turn_of}
use Rattle.worker.proofs.Laws.{held}
use Rattle.worker_theorems.specs.Calls.{Page, admit, call_of}
use Rattle.worker_theorems.specs.Ranges.{refuses}
use Rattle.worker_theorems.proofs.Ring.{seek_holds}

-- a place stored as it was
stored_same : (i : ℕ) (w : Worker) → (place_in w.places i).taken ≡ true → stored w i (place_of true (place_in w.places i).at (place_in w.places i).scan) w.last ≡ w
stored_same i w t =
    let p = place_in w.places i in
    ap (λ (ps : List Place). record { places = ps; last = w.last; q = w.q; words = w.words })
    (ap (λ (b : _). set w.places i (place_of b p.at p.scan)) (sym t) ∙ set-get_or w.places i beyond)

module _ (P : Left → Type 0) (w : Worker) where
  -- an admission
  placed : (k at : ℕ) (b : Begun) → ((a : Said) → b ≡ not_started a → P (left w a []))
      → ((s : Scan) → b ≡ started s → P (left (stored w k (place_of true at s) w.last) (said number.placed (k ∷ [])) [])) → P (placed_by b k at w)
  placed k at (started s) f g = g s refl
  placed k at (not_started a) f g = f a refl

  pub view_admit : (bytes : List ℕ) (p : Page)
      → ((a : Said) → refuses a ≡ true → P (left w a []))
      → ((k : ℕ) (s : Scan) → k < 16 → (place_in w.places k).taken ≡ false → begin_of bytes p.at p.long p.start p.construct p.kind p.flags (share_of w.words) ≡ started s
      → P (left (stored w k (place_of true p.at s) w.last) (said number.placed (k ∷ [])) []))
      → P (call_of (admit bytes p) w)
  unfolding admit_of among
  view_admit bytes p same given =
      let k = lowest_in w.places in
      if_is Left P _ _ _
      (λ e.
      if_is Left P _ _ _ (λ f. same _ refl)
      (λ f.
      let h : k < 16 = leb-false 16 k f in
      placed k p.at _ (λ a g. same a (not_begun (λ (x : Said). refuses x ≡ true) bytes p.at p.long p.start p.construct p.kind p.flags (share_of w.words) (λ l. refl) refl refl (λ x. refl) a g))
      (λ s g. given k s h (not_yes _ (seek_holds (λ j. not (place_in w.places j).taken) 16 0 h)) g)))
      (λ e. same _ refl)

  -- a verdict
  heard : (i : ℕ) (v : Verdict) → (place_in w.places i).taken ≡ true → P (refusing w [])
      → (givable (place_in w.places i).scan v ≡ true → P (left (stored w i (place_of true (place_in w.places i).at (given_scan (place_in w.places i).scan v)) w.last) (said number.kept []) []))
      → P (given_by (give_of (place_in w.places i).scan v) i w)
  unfolding give_of when◌then◌else◌
  heard i v t same given =
      case _ (givable (place_in w.places i).scan v) (λ g. rw g (given g)) (λ g. rw g (subst (λ (x : Worker). P (refusing x [])) (sym (stored_same i w t)) same))

  pub view_verdict : (i : ℕ) (v : Verdict)
      → P (refusing w [])
      → (holds i w ≡ true → givable (place_in w.places i).scan v ≡ true
      → P (left (stored w i (place_of true (place_in w.places i).at (given_scan (place_in w.places i).scan v)) w.last) (said number.kept []) []))
      → P (verdict_of i v w)
  unfolding verdict_of
  view_verdict i v same given = if_is Left P _ _ _ (λ e. heard i v (held i w e).taken same (given e)) (λ e. same)

  -- collecting
  pub view_collect : (i : ℕ)
      → P (refusing w [])
      → (holds i w ≡ true → ended (place_in w.places i) ≡ true → P (left (stored w i free_place w.last) (answer_of (place_in w.places i).scan) []))
      → P (collect_call i w)
  unfolding collect_call
  view_collect i same given = if_is Left P _ _ _ (λ e. let a = both (holds i w) _ e in given a.0 a.1) (λ e. same)

  -- a turn
  pub view_turn : (bytes lent : List ℕ)
      → P (refusing w lent)
      → P (left w (said number.idle []) lent)
      → ((k : ℕ) → k < 16 → length lent ≡ w.words → worker_in_range w ≡ true → running (place_in w.places k) ≡ true → ready (place_in w.places k) (length bytes) (share_of w.words) ≡ true
      → P (served_at k bytes w lent))
      → P (turn_of bytes w lent)
  unfolding turn_of turn_at
  view_turn bytes lent same idle serves =
      let k = next_in w.places w.last in
      if_is Left P _ _ _
      (λ e.
      let b = both (eqb (length lent) w.words) _ e in
      if_is Left P _ _ _ (λ f. idle)
      (λ f.
      let h : k < 16 = leb-false 16 k f in
      if_is Left P _ _ _ (λ r. serves k h (eqb-true (length lent) w.words b.0) b.1 (seek_holds (λ j. running (place_in w.places j)) 16 (after w.last) h) r) (λ r. same)))
      (λ e. same)

-- an admission that gave place i
pub view_placed : (P : Left → Type 0) (w : Worker) (bytes : List ℕ) (p : Page) (i : ℕ) → (call_of (admit bytes p) w).answer ≡ said number.placed (i ∷ [])
    → ((s : Scan) → i < 16 → begin_of bytes p.at p.long p.start p.construct p.kind p.flags (share_of w.words) ≡ started s
    → P (left (stored w i (place_of true p.at s) w.last) (said number.placed (i ∷ [])) []))
    → P (call_of (admit bytes p) w)
unfolding among
view_placed P w bytes p i e given =
    view_admit (λ (d : Left). d.answer ≡ said number.placed (i ∷ []) → P d) w bytes p
    (λ a r f. clash (refuses a) r (ap refuses f))
    (λ k s hk t b f.
    let x : i ≡ k = sym (ap (λ (a : Said). get_or a.values 0 0) f) in
    subst (λ (j : ℕ). P (left (stored w j (place_of true p.at s) w.last) (said number.placed (j ∷ [])) [])) x (given s (omega arith) b))
    e
