-- Events put one after the other: one more, and no more.
use Prim.Native.Nat.{ℕ, suc, ◌+◌, ◌-◌, ◌≤◌, ◌<◌}
use native.Mathlib.Omega.{arith}
use mathlib.Core.Path.{◌≡◌, sym, ap, ◌∙◌}
use mathlib.Core.List.{List}
use lib.ListN.{length}
use Rattle.events.specs.declared.Event.{Event}
use Rattle.events.specs.Words.{event_in, events_in}
use Rattle.report.specs.Output.{free_place, event_room, put_each}
use Rattle.report.specs.Put.{Put, outcome, put_of}

-- none are passed
pub each_begun : (pieces : Event → List (List ℕ)) (words : List ℕ) (most : ℕ) (out : List ℕ) (at : ℕ) → put_each pieces out at (events_in words 0 (most - 0)) ≡ put_each pieces out at (events_in words 0 most)
each_begun pieces words most out at =
    let all : most - 0 ≡ most = omega arith in
    ap (λ (n : ℕ). put_each pieces out at (events_in words 0 n)) all

module _ (pieces : Event → List (List ℕ)) (words : List ℕ) (most k : ℕ) (out : List ℕ) (at : ℕ) where
  pub each_more : (r : ℕ) (b : List ℕ) → k < most → outcome r b ≡ put_of out (free_place (length out) at event_room) (pieces (event_in words k))
      → put_each pieces b r (events_in words (k + 1) (most - (k + 1))) ≡ put_each pieces out at (events_in words k (most - k))
  unfolding put_each events_in
  each_more r b h e =
      let left : most - k ≡ suc (most - (k + 1)) = omega arith in
      ap (λ (p : Put). put_each pieces p.buffer p.place (events_in words (k + 1) (most - (k + 1)))) e
      ∙ sym (ap (λ (n : ℕ). put_each pieces out at (events_in words k n)) left)

  pub each_done : most ≤ k → outcome at out ≡ put_each pieces out at (events_in words k (most - k))
  unfolding put_each events_in
  each_done h =
      let none : most - k ≡ 0 = omega arith in
      sym (ap (λ (n : ℕ). put_each pieces out at (events_in words k n)) none)
