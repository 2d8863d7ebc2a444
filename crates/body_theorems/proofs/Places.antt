-- How the cells of a body grow, byte by byte, as a scan passes over them.
use Prim.Native.Nat.{ℕ, zero, suc, ◌+◌, ◌-◌, ◌≤◌, ◌<◌}
use native.Mathlib.Omega.{arith}
use native.Mathlib.Nat.{zero-add, suc-add, add-zero}
use mathlib.Core.Path.{◌≡◌, refl, sym, ap, ◌∙◌}
use mathlib.Core.Bool.{true, false}
use mathlib.Core.List.{List, [], ◌∷◌, ◌++◌, append_assoc, append-nil}
use lib.Dec.{eqb}
use lib.ListN.{length, length-append}
use borrow.Author.Tests.{ne_eqb}
use Rattle.base.specs.If.{when◌then◌else◌}
use Rattle.base.proofs.Choice.{case, if_is}
use Rattle.base.specs.Page.{byte_at}
use Rattle.body_places.specs.Body.{Cell, cell, cells_at, places_of, prefix_after, in_prefix, splits, spaces, split_tab, drift_at, cells_from, expression_cells, bytes_from, part_cells, all_from}
use Rattle.body_theorems.specs.Events.{slice_of, run_of}

shift : (at m : ℕ) → at + suc m ≡ at + 1 + m
shift at m = omega arith

-- ---- cells one after the other

pub cells_append : (a b : List ℕ) (at : ℕ) → cells_at at (a ++ b) ≡ cells_at at a ++ cells_at (at + length a) b
cells_append [] b at = rw add-zero
cells_append (x ∷ a) b at = rw (shift at (length a)) (ap (λ (l : List Cell). cell at x ∷ l) (cells_append a b (at + 1)))

-- ---- a part of the page

module _ (page : List ℕ) where
  bytes_split : (m n at : ℕ) → bytes_from page at (m + n) ≡ bytes_from page at m ++ bytes_from page (at + m) n
  unfolding bytes_from
  bytes_split zero n at = rw (zero-add, add-zero)
  bytes_split (suc m) n at = rw (suc-add, shift at m) (ap (λ (l : List ℕ). byte_at page at ∷ l) (bytes_split m n (at + 1)))

  pub bytes_count : (n at : ℕ) → length (bytes_from page at n) ≡ n
  unfolding bytes_from
  bytes_count zero at = refl
  bytes_count (suc n) at = ap suc (bytes_count n (at + 1))

  pub bytes_one : (at : ℕ) → bytes_from page at 1 ≡ byte_at page at ∷ []
  unfolding bytes_from
  bytes_one at = refl

  -- one more byte
  pub bytes_more : (from at : ℕ) → from ≤ at → bytes_from page from (at + 1 - from) ≡ bytes_from page from (at - from) ++ (byte_at page at ∷ [])
  bytes_more from at h =
      let e : at + 1 - from ≡ at - from + 1 = omega arith in
      let f : from + (at - from) ≡ at = omega arith in
      rw e (bytes_split (at - from) 1 from ∙ rw f (ap (λ (l : List ℕ). bytes_from page from (at - from) ++ l) (bytes_one at)))

  -- from one place up to another
  abbrev pub part : ℕ → ℕ → List Cell
  part from to = part_cells page from (to - from)

  pub part_joins : (from at to : ℕ) → from ≤ at → at ≤ to → part from to ≡ part from at ++ part at to
  part_joins from at to h g =
      let e : to - from ≡ at - from + (to - at) = omega arith in
      let f : from + (at - from) ≡ at = omega arith in
      let k : from + length (bytes_from page from (at - from)) ≡ at = omega (arith, bytes_count (at - from) from) in
      rw e (ap (cells_at from) (bytes_split (at - from) (to - at) from) ∙ rw f (cells_append (bytes_from page from (at - from)) (bytes_from page at (to - at)) from ∙ rw k))

  pub part_one : (at : ℕ) → part at (at + 1) ≡ cell at (byte_at page at) ∷ []
  part_one at =
      let e : at + 1 - at ≡ 1 = omega arith in
      rw e (ap (cells_at at) (bytes_one at))

  pub part_none : (at : ℕ) → part at at ≡ []
  unfolding bytes_from
  part_none at =
      let e : at - at ≡ 0 = omega arith in
      rw e

  pub part_more : (from at : ℕ) → from ≤ at → part from (at + 1) ≡ part from at ++ (cell at (byte_at page at) ∷ [])
  part_more from at h = part_joins from at (at + 1) h (omega arith) ∙ ap (λ (l : List Cell). part from at ++ l) (part_one at)

  pub places_part : (n from : ℕ) → places_of (part_cells page from n) ≡ all_from from n
  unfolding bytes_from all_from
  places_part zero from = refl
  places_part (suc n) from = ap (λ (l : List ℕ). from ∷ l) (places_part n (from + 1))

  -- ---- slices

  pub slice_outside : (from to v : ℕ) → v ≡ 0 → run_of page from v to ≡ part from to
  unfolding slice_of when◌then◌else◌
  slice_outside from to v e = rw e

  -- a tab that was split, and nothing else yet
  pub slice_tab : (at v : ℕ) → 0 < v → slice_of page at v (at + 1) ≡ spaces (4 - v)
  unfolding slice_of bytes_from when◌then◌else◌
  slice_tab at v h =
      let e : at + 1 - (at + 1) ≡ 0 = omega arith in
      rw (ne_eqb v 0 (λ z. omega arith), e) (append-nil (spaces (4 - v)))

  -- one more byte of a run that is not empty
  pub slice_more : (from at v : ℕ) → from < at → slice_of page from v (at + 1) ≡ slice_of page from v at ++ (byte_at page at ∷ [])
  unfolding slice_of when◌then◌else◌
  slice_more from at v h =
      case _ (eqb v 0) (λ e. rw e (bytes_more from at (omega arith)))
      (λ e. rw e (ap (λ (l : List ℕ). spaces (4 - v) ++ l) (bytes_more (from + 1) at (omega arith)) ∙ sym (append_assoc (spaces (4 - v)) _ _)))

  pub run_more : (from at v : ℕ) → from < at → run_of page from v (at + 1) ≡ run_of page from v at ++ (cell (from + length (slice_of page from v at)) (byte_at page at) ∷ [])
  run_more from at v h = ap (cells_at from) (slice_more from at v h) ∙ cells_append (slice_of page from v at) (byte_at page at ∷ []) from

  pub slice_long : (from at v : ℕ) → from < at → length (slice_of page from v (at + 1)) ≡ length (slice_of page from v at) + 1
  slice_long from at v h = ap length (slice_more from at v h) ∙ length-append (slice_of page from v at) (byte_at page at ∷ [])

  -- ---- the cells without line prefixes

  -- how many columns of a line prefix may still come behind a byte, and how far places drift there
  abbrev left_behind : ℕ → ℕ → ℕ
  left_behind b left = when in_prefix b left then left - 1 else when splits b left then 0 else prefix_after b

  abbrev drift_behind : ℕ → ℕ → ℕ → ℕ
  drift_behind b left drift = when in_prefix b left then drift else when splits b left then 4 - left - 1 else drift_at b drift

  -- the same behind n places
  abbrev left_after : ℕ → ℕ → ℕ → ℕ
  left_after left at zero = left
  left_after left at (suc n) = left_after (left_behind (byte_at page at) left) (at + 1) n

  abbrev drift_after : ℕ → ℕ → ℕ → ℕ → ℕ
  drift_after left drift at zero = drift
  drift_after left drift at (suc n) = drift_after (left_behind (byte_at page at) left) (drift_behind (byte_at page at) left drift) (at + 1) n

  -- at a place of the body that begins at `from`
  abbrev pub left_at : ℕ → ℕ → ℕ
  left_at from at = left_after 0 from (at - from)

  abbrev pub drift_here : ℕ → ℕ → ℕ
  drift_here from at = drift_after 0 0 from (at - from)

  split : (m n left drift at : ℕ) → cells_from page left drift at (m + n) ≡ cells_from page left drift at m ++ cells_from page (left_after left at m) (drift_after left drift at m) (at + m) n
  unfolding cells_from when◌then◌else◌
  split zero n left drift at = rw (zero-add, add-zero)
  split (suc m) n left drift at =
      let b = byte_at page at in
      case _ (in_prefix b left)
      (λ e. rw (suc-add, shift at m, e) (split m n (left - 1) drift (at + 1)))
      (λ e.
      case _ (splits b left)
      (λ f. rw (suc-add, shift at m, e, f) (ap (λ (l : List Cell). cells_at at (split_tab left) ++ l) (split m n 0 (4 - left - 1) (at + 1)) ∙ sym (append_assoc (cells_at at (split_tab left)) _ _)))
      (λ f. rw (suc-add, shift at m, e, f) (ap (λ (l : List Cell). cell (at + drift_at b drift) b ∷ l) (split m n (prefix_after b) (drift_at b drift) (at + 1)))))

  left_split : (m n left at : ℕ) → left_after left at (m + n) ≡ left_after (left_after left at m) (at + m) n
  left_split zero n left at = rw (zero-add, add-zero)
  left_split (suc m) n left at = rw (suc-add, shift at m) (left_split m n (left_behind (byte_at page at) left) (at + 1))

  drift_split : (m n left drift at : ℕ) → drift_after left drift at (m + n) ≡ drift_after (left_after left at m) (drift_after left drift at m) (at + m) n
  drift_split zero n left drift at = rw (zero-add, add-zero)
  drift_split (suc m) n left drift at = rw (suc-add, shift at m) (drift_split m n (left_behind (byte_at page at) left) (drift_behind (byte_at page at) left drift) (at + 1))

  -- no more than two columns may come
  left_small : (n left at : ℕ) → left ≤ 2 → left_after left at n ≤ 2
  left_small zero left at h = h
  left_small (suc n) left at h =
      let b = byte_at page at in
      left_small n (left_behind b left) (at + 1)
      (if_is ℕ (λ (k : ℕ). k ≤ 2) (in_prefix b left) _ _ (λ e. omega arith)
      (λ e. if_is ℕ (λ (k : ℕ). k ≤ 2) (splits b left) _ _ (λ f. omega arith) (λ f. if_is ℕ (λ (k : ℕ). k ≤ 2) _ 2 0 (λ g. omega arith) (λ g. omega arith))))

  pub left_few : (from at : ℕ) → left_at from at ≤ 2
  left_few from at = left_small (at - from) 0 from (omega arith)

  module _ (from at : ℕ) (h : from ≤ at) where
    abbrev b : ℕ
    b = byte_at page at

    abbrev left : ℕ
    left = left_at from at

    abbrev drift : ℕ
    drift = drift_here from at

    up : (k : ℕ) → at + k - from ≡ at - from + k
    up k = omega arith

    back : from + (at - from) ≡ at
    back = omega arith

    pub beyond : (k : ℕ) → expression_cells page from (at + k) ≡ expression_cells page from at ++ cells_from page left drift at k
    beyond k = rw (up k) (split (at - from) k 0 0 from ∙ rw back)

    left_beyond : left_at from (at + 1) ≡ left_behind b left
    left_beyond = rw (up 1) (left_split (at - from) 1 0 from ∙ rw back)

    drift_beyond : drift_here from (at + 1) ≡ drift_behind b left drift
    drift_beyond = rw (up 1) (drift_split (at - from) 1 0 0 from ∙ rw back)

    one_more_lem : (l : List Cell) → cells_from page left drift at 1 ≡ l → expression_cells page from (at + 1) ≡ expression_cells page from at ++ l
    one_more_lem l e = beyond 1 ∙ ap (λ (x : List Cell). expression_cells page from at ++ x) e

    -- a byte of the body is passed
    module _ (e : in_prefix b left ≡ false) (f : splits b left ≡ false) where
      pub cells_grow : expression_cells page from (at + 1) ≡ expression_cells page from at ++ (cell (at + drift_at b drift) b ∷ [])
      unfolding cells_from when◌then◌else◌
      cells_grow = one_more_lem _ (rw (e, f))

      pub left_grows : left_at from (at + 1) ≡ prefix_after b
      unfolding when◌then◌else◌
      left_grows = left_beyond ∙ rw (e, f)

      pub drift_grows : drift_here from (at + 1) ≡ drift_at b drift
      unfolding when◌then◌else◌
      drift_grows = drift_beyond ∙ rw (e, f)

    -- a tab is passed of which a prefix has taken some columns
    module _ (e : in_prefix b left ≡ false) (f : splits b left ≡ true) where
      pub cells_split : expression_cells page from (at + 1) ≡ expression_cells page from at ++ cells_at at (split_tab left)
      unfolding cells_from when◌then◌else◌
      cells_split = one_more_lem _ (rw (e, f) (append-nil (cells_at at (split_tab left))))

      pub left_over : left_at from (at + 1) ≡ 0
      unfolding when◌then◌else◌
      left_over = left_beyond ∙ rw (e, f)

      pub drift_begins : drift_here from (at + 1) ≡ 4 - left - 1
      unfolding when◌then◌else◌
      drift_begins = drift_beyond ∙ rw (e, f)

    -- a space of a line prefix is passed
    module _ (e : in_prefix b left ≡ true) where
      pub cells_stay : expression_cells page from (at + 1) ≡ expression_cells page from at ++ []
      unfolding cells_from when◌then◌else◌
      cells_stay = one_more_lem _ (rw e)

      pub left_falls : left_at from (at + 1) ≡ left - 1
      unfolding when◌then◌else◌
      left_falls = left_beyond ∙ rw e

      pub drift_stays : drift_here from (at + 1) ≡ drift
      unfolding when◌then◌else◌
      drift_stays = drift_beyond ∙ rw e

-- where nothing drifts, nothing begins to
pub still : (b : ℕ) → drift_at b 0 ≡ 0
still b = if_is ℕ (λ (k : ℕ). k ≡ 0) _ 0 0 (λ e. refl) (λ e. refl)
