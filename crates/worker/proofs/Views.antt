-- Which case of `view_of` a call is, over plain variables.
use Prim.Native.Nat.{ℕ, ◌≤◌, ◌<◌}
use mathlib.Core.Path.{◌≡◌}
use mathlib.Core.Bool.{true, false}
use lib.Dec.{ltb}
use borrow.Author.Tests.{le-ltb, lt-ltb}
use Rattle.base.specs.If.{when◌then◌else◌}
use Rattle.base.specs.Number.{bad_call}
use Rattle.base.proofs.Choice.{if_yes, if_no, and_yes, and_no, and_no'}
use Rattle.events.specs.Share.{share_of}
use Rattle.worker.specs.declared.Worker.{Worker}
use Rattle.worker.specs.declared.viewing.View.{View}
use Rattle.worker.specs.Ring.{places}
use Rattle.worker.specs.Place.{place_in, place_in_range, worker_in_range}
use Rattle.worker.specs.Worker.{start_at}
use Rattle.worker.specs.View.{free, nothing_seen, seen_of, view_of}

-- of a place that there is
abbrev within : ℕ → Worker → View
within i w =
    when (place_in w.places i).taken then
    (when place_in_range (share_of w.words) (place_in w.places i) then seen_of (place_in w.places i) (start_at i w) else nothing_seen bad_call)
    else nothing_seen free

module _ (i : ℕ) (w : Worker) (v : View) where
  pub view_far : 16 ≤ i → v ≡ nothing_seen bad_call → v ≡ view_of i w
  unfolding view_of
  view_far h e = if_no _ _ _ _ _ (and_no _ _ (le-ltb i 16 h)) e

  pub view_forged : worker_in_range w ≡ false → v ≡ nothing_seen bad_call → v ≡ view_of i w
  unfolding view_of
  view_forged r e = if_no View _ v (within i w) _ (and_no' (ltb i places) (worker_in_range w) r) e

  module _ (h : i < 16) (r : worker_in_range w ≡ true) where
    pub view_free : (place_in w.places i).taken ≡ false → v ≡ nothing_seen free → v ≡ view_of i w
    unfolding view_of
    view_free t e = if_yes _ _ _ _ _ (and_yes _ _ (lt-ltb i 16 h) r) (if_no _ _ _ _ _ t e)

    pub view_taken :
        (place_in w.places i).taken ≡ true
        → place_in_range (share_of w.words) (place_in w.places i) ≡ true
        → v ≡ seen_of (place_in w.places i) (start_at i w)
        → v ≡ view_of i w
    unfolding view_of
    view_taken t g e = if_yes _ _ _ _ _ (and_yes _ _ (lt-ltb i 16 h) r) (if_yes _ _ _ _ _ t (if_yes _ _ _ _ _ g e))

    pub view_made_up :
        (place_in w.places i).taken ≡ true
        → place_in_range (share_of w.words) (place_in w.places i) ≡ false
        → v ≡ nothing_seen bad_call
        → v ≡ view_of i w
    unfolding view_of
    view_made_up t g e = if_yes _ _ _ _ _ (and_yes _ _ (lt-ltb i 16 h) r) (if_yes _ _ _ _ _ t (if_no _ _ _ _ _ g e))
