-- What holds of an expression's scan with a verdict source between its steps: what the events have collected is what the page's lines say up
-- to the scan's place, and the register says where the first line prefix stands. Without a verdict source nothing is asked, and so nothing
-- need hold.
use Prim.Native.Nat.{ℕ, ◌+◌, ◌≤◌, ◌<◌}
use native.Mathlib.Omega.{arith}
use mathlib.Core.Path.{◌≡◌, refl, sym, ap, ◌∙◌}
use mathlib.Core.Bool.{Bool, true, false, not, ◌&&◌}
use mathlib.Core.List.{List, [], ◌∷◌, ◌++◌}
use lib.Dec.{leb, eqb}
use lib.ListN.{length}
use borrow.Author.Tests.{eqb-true, eqb-false, ne_eqb, leb-true}
use Rattle.base.proofs.Tables.{◌&◌, found}
use Rattle.base.specs.If.{when◌then◌else◌}
use Rattle.base.proofs.Choice.{if_is, case}
use Rattle.base.specs.Range.{within}
use Rattle.base.proofs.Ranges.{above}
use Rattle.base.specs.Page.{byte_at}
use Rattle.base.specs.Byte.{right_brace, end_of_page}
use Rattle.base.specs.State as state
use Rattle.base.specs.Tab.{columns_of}
use Rattle.base.specs.Table.{find}
use Rattle.base.specs.declared.InTab.{InTab}
use Rattle.base.specs.declared.Move.{Move}
use Rattle.body_places.specs.Body.{in_prefix, splits, drift_at, expression_cells}
use Rattle.mdx_expression.specs.Expression.{stops}
use Rattle.tokenizer.specs.Moved.{first_joint}
use Rattle.tokenizer.specs.declared.Regs.{Regs}
use Rattle.scan_theorems.proofs.Tests.{clash}
use Rattle.body_theorems.specs.Events.{Runs, slice_of, run_of}
use Rattle.body_theorems.proofs.After.{place_then, tab_then, regs_then, runs_then, After}
use Rattle.body_theorems.proofs.Places.{left_at, drift_here, cells_grow, drift_grows, part, part_more, still}

module _ (page : List ℕ) where
  -- no line prefix stands before the register's place, or none before the scan's where it is 0
  pub record Seam (at body joint : ℕ) : Type 0 where
    pub none : joint ≡ 0 → (expression_cells page body at ≡ part page body at) × (drift_here page body at ≡ 0)
    pub some : (joint ≡ 0 → ⊥) → (body ≤ joint) × (joint ≤ at) × (expression_cells page body joint ≡ part page body joint) × (left_at page body joint ≡ 2) × (drift_here page body joint ≡ 0)

  -- all runs are over, and the body up to the scan's place is collected
  pub record Held (at body joint : ℕ) (r : Runs) : Type 0 where
    pub from : body ≤ at
    pub cells : r.cells ≡ expression_cells page body at
    pub seam : Seam at body joint

  -- the byte at the scan's place is no space of a line prefix
  abbrev pub Starts : ℕ → ℕ → Type 0
  Starts at body = in_prefix (byte_at page at) (left_at page body at) ≡ false

  -- it is a tab of which the prefix takes some columns, as many as the scan says, or none
  abbrev pub Splits : ℕ → ℕ → Type 0
  Splits at body = splits (byte_at page at) (left_at page body at) ≡ true

  abbrev pub Whole : ℕ → ℕ → Type 0
  Whole at body = splits (byte_at page at) (left_at page body at) ≡ false

  pub record Tabbed (at body joint : ℕ) (v : InTab) : Type 0 where
    pub split : Splits at body → (columns_of v ≡ left_at page body at) × (joint ≡ 0 → ⊥)
    pub whole : Whole at body → columns_of v ≡ 0

  -- before data: nothing drifts where a run begins
  pub record IsBefore (at body joint : ℕ) (v : InTab) (r : Runs) : Type 0 where
    pub held : Held at body joint r
    pub starts : Starts at body
    pub tabbed : Tabbed at body joint v
    pub steady : eqb (byte_at page at) end_of_page ≡ false → drift_at (byte_at page at) (drift_here page body at) ≡ 0

  -- a run of data was entered, and goes up to the scan's place: it has just been entered, or has some bytes
  pub record IsInside (at body joint : ℕ) (v : InTab) (r : Runs) : Type 0 where
    pub from : body ≤ r.entered
    pub to : r.entered ≤ at
    pub seam : Seam at body joint
    pub starts : Starts at body
    pub fresh : r.entered ≡ at
        → (r.cells ≡ expression_cells page body at)
        × Tabbed at body joint r.tab
        × (drift_at (byte_at page at) (drift_here page body at) ≡ 0)
        × (stops (byte_at page at) 0 ≡ false)
    pub going : r.entered < at
        → (r.cells ++ run_of page r.entered (columns_of r.tab) at ≡ expression_cells page body at)
        × (r.entered + length (slice_of page r.entered (columns_of r.tab) at) ≡ at + drift_here page body at)
        × Whole at body
        × (columns_of v ≡ 0)

  -- after a line ending
  pub record IsAfterEol (at body joint : ℕ) (v : InTab) (r : Runs) : Type 0 where
    pub held : Held at body joint r
    pub left : left_at page body at ≡ 2
    pub beyond : body < at
    pub outside : columns_of v ≡ 0
    pub steady : drift_here page body at ≡ 0

  -- in a line prefix, `size` of whose columns are passed, those of a tab that it ends in among them
  pub record IsPrefix (at body joint : ℕ) (v : InTab) (size : ℕ) (r : Runs) : Type 0 where
    pub held : Held at body joint r
    pub sum : left_at page body at + size ≡ 2 + columns_of v
    pub in_tab : 0 < columns_of v → Splits at body × (columns_of v ≡ left_at page body at)
    pub begun : joint ≡ 0 → ⊥
    pub steady : drift_here page body at ≡ 0

  -- at the `}` that asks
  pub record IsAsking (at body joint : ℕ) (v : InTab) (r : Runs) : Type 0 where
    pub held : Held at body joint r
    pub brace : byte_at page at ≡ right_brace
    pub outside : columns_of v ≡ 0

-- no line prefix goes on, and no brace is open: with a verdict source none is counted
pub record Rest (g : Regs) : Type 0 where
  pub prefix : g.prefix ≡ 0
  pub depth : g.depth ≡ 0

-- ---- by the scan's state

-- the states of an expression, the question with or without a verdict kept, any other state, an answer
pub data Phase : Type 0 where
  Before : Phase
  Inside : Phase
  EolAfter : Phase
  Prefix : Phase
  Asking : Phase
  Elsewhere : Phase
  Over : Phase

unfoldable pub phase_of : ℕ → Phase
phase_of name =
    when leb name state.bad_call then Over
    else find name (
    (state.mdx_expression_before, Before)
    ∷ (state.mdx_expression_inside, Inside)
    ∷ (state.mdx_expression_eol_after, EolAfter)
    ∷ (state.mdx_expression_prefix, Prefix)
    ∷ (state.asking, Asking)
    ∷ (state.mdx_expression_verdict, Asking)
    ∷ [])
    Elsewhere

-- only a scan with a verdict source asks
module _ (page : List ℕ) (asks : Bool) (at : ℕ) (v : InTab) (g : Regs) (r : Runs) where
  abbrev pub HoldsIn : Phase → Type 0
  HoldsIn Before = asks ≡ true → IsBefore page at g.body g.joint v r × Rest g
  HoldsIn Inside = asks ≡ true → IsInside page at g.body g.joint v r × Rest g
  HoldsIn EolAfter = asks ≡ true → IsAfterEol page at g.body g.joint v r × Rest g
  HoldsIn Prefix = asks ≡ true → IsPrefix page at g.body g.joint v g.prefix r × (g.depth ≡ 0)
  HoldsIn Asking = (asks ≡ true) × IsAsking page at g.body g.joint v r × Rest g
  HoldsIn Elsewhere = asks ≡ true → Rest g
  HoldsIn Over = Unit {0}

abbrev pub Kept : List ℕ → Bool → ℕ → ℕ → InTab → Regs → Runs → Type 0
Kept page asks name at v g r = HoldsIn page asks at v g r (phase_of name)

-- neither in an expression nor asking
abbrev pub aside : ℕ → Bool
aside name = not (eqb name state.asking) && not (within state.mdx_expression_before state.mdx_expression_verdict name)

pub high_aside : (name : ℕ) → state.mdx_expression_verdict < name → aside name ≡ true
high_aside name h = rw (ne_eqb name state.asking (λ e. omega arith), above state.mdx_expression_before state.mdx_expression_verdict name (omega arith))

-- what holds at an answer and elsewhere holds there
outside : (P : Phase → Type 0) (name : ℕ) → aside name ≡ true → (leb name state.bad_call ≡ true → P Over) → P Elsewhere → P (phase_of name)
unfolding phase_of within
outside P name h p q =
    if_is Phase P _ _ _ p
    (λ o.
    found P name _ _
    ((λ e. clash false (rw e at h) refl)
    & (λ e. clash false (rw e at h) refl)
    & (λ e. clash false (rw e at h) refl)
    & (λ e. clash false (rw e at h) refl)
    & (λ e. clash false (rw e at h) refl)
    & (λ e. clash false (rw e at h) refl)
    & tt)
    q)

module _ (page : List ℕ) (asks : Bool) {n at : ℕ} {v : InTab} {g : Regs} {r : Runs} {m : Move} where
  pub to_aside : aside m.next ≡ true → (asks ≡ true → Rest (regs_then n at g m)) → After page (Kept page asks) n at v g r m
  to_aside h p = record { kept = outside (HoldsIn page asks (place_then n at g m) (tab_then v m) (regs_then n at g m) (runs_then page at v r m)) m.next h (λ e. tt) p }

  -- at an answer nothing is left to hold
  pub to_end : leb m.next state.bad_call ≡ true → After page (Kept page asks) n at v g r m
  unfolding phase_of when◌then◌else◌
  to_end h = record { kept = rw h tt }

-- no state of a tag has a line prefix or an open brace
pub in_tag : (page : List ℕ) (asks : Bool) (name at : ℕ) (v : InTab) (g : Regs) (r : Runs) → leb state.mdx_jsx_start name ≡ true → Kept page asks name at v g r → asks ≡ true → Rest g
in_tag page asks name at v g r h =
    let l = leb-true state.mdx_jsx_start name h in
    outside (λ (x : Phase). HoldsIn page asks at v g r x → asks ≡ true → Rest g) name (high_aside name (omega arith)) (λ e. absurd (omega (arith, leb-true name state.bad_call e))) (λ p. p)

-- ---- the seam

module _ (page : List ℕ) (at body joint : ℕ) (s : Seam page at body joint) where
  -- a byte of the body is passed
  pub seam_grows : body ≤ at → Starts page at body → Whole page at body → Seam page (at + 1) body joint
  seam_grows h e f =
      record {
        none = λ j.
            let k = s.none j in
            let b = byte_at page at in
            let d : drift_at b (drift_here page body at) ≡ 0 = ap (drift_at b) k.1 ∙ still b in
            let z : at + drift_at b (drift_here page body at) ≡ at = omega (arith, d) in
            (cells_grow page body at h e f ∙ rw (z, k.0) (sym (part_more page body at h)), drift_grows page body at h e f ∙ d);
        some = λ j. let k = s.some j in (k.0, omega (arith, k.1), k.2, k.3, k.4);
      }

  -- a byte is passed behind the first line prefix
  pub seam_stays : (joint ≡ 0 → ⊥) → Seam page (at + 1) body joint
  seam_stays h = record { none = λ j. absurd (h j); some = λ j. let k = s.some j in (k.0, omega (arith, k.1), k.2, k.3, k.4) }

  pub seam_begins : body < at → left_at page body at ≡ 2 → drift_here page body at ≡ 0 → Seam page at body (first_joint joint at)
  unfolding when◌then◌else◌
  seam_begins h l d =
      case _ (eqb joint 0)
      (λ e. rw e (record { none = λ j. absurd (omega arith); some = λ j. (omega arith, omega arith, (s.none (eqb-true joint 0 e)).0, l, d) }))
      (λ e. rw e s)

  pub seam_there : body < at → first_joint joint at ≡ 0 → ⊥
  unfolding when◌then◌else◌
  seam_there h = case _ (eqb joint 0) (λ e. rw e (λ j. omega arith)) (λ e. rw e (λ j. eqb-false joint 0 e j))
