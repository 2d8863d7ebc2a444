-- The same for an ESM block, of which nothing is dropped: what the events have collected is all from the block's start up to the scan's place, or
-- up to the saved place while the scan looks ahead.
use Prim.Native.Nat.{ℕ, ◌+◌, ◌≤◌, ◌<◌}
use native.Mathlib.Omega.{arith}
use mathlib.Core.Path.{◌≡◌, refl, sym, ap, ◌∙◌, subst}
use mathlib.Core.Bool.{Bool, true, false}
use mathlib.Core.List.{List, [], ◌∷◌, ◌++◌}
use lib.Dec.{leb, eqb}
use lib.ListN.{length}
use borrow.Author.Tests.{lt-ltb}
use Rattle.base.proofs.Tables.{◌&◌, Each}
use Rattle.base.specs.If.{when◌then◌else◌, among}
use Rattle.base.proofs.Choice.{both}
use Rattle.base.specs.Page.{byte_at, after_line_feed}
use Rattle.base.specs.Byte.{line_feed, space, end_of_page}
use Rattle.base.specs.Kind.{esm, esm_data}
use Rattle.base.specs.State as state
use Rattle.base.specs.Tab.{columns_of}
use Rattle.base.specs.Table.{find}
use Rattle.base.specs.Decide.{eat, retry, retry_with}
use Rattle.base.specs.declared.InTab.{InTab}
use Rattle.base.specs.declared.Mark.TheVariants.{Enter, Exit}
use Rattle.base.specs.declared.Marks.TheVariants.{Nothing, One, Two}
use Rattle.base.specs.declared.Effect.TheVariants.{Save, Restore, Last}
use Rattle.base.specs.declared.Move.{Move}
use Rattle.base.specs.declared.Verdict.{Verdict}
use Rattle.base.specs.declared.Verdict.TheVariants.{Fine, Unfinished, Wrong}
use Rattle.mdx_esm.specs.Esm as esm_state
use Rattle.mdx_esm.specs.Word.{is_word}
use Rattle.tokenizer.specs.Decision.{esm_allowed, esm_fault, esm_states, decision}
use Rattle.tokenizer.specs.declared.Regs.{Regs}
use Rattle.tokenizer.specs.declared.Tokenizer.{Tokenizer}
use Rattle.body_places.specs.Body.{Cell}
use Rattle.body_places.proofs.Place.{place_in_lem}
use Rattle.scan_theorems.proofs.There.{byte_there, letter_there, word_there, line_there}
use Rattle.scan_theorems.proofs.EveryState.{of_esm, of_every_esm_state}
use Rattle.body_theorems.specs.Events.{Runs, collect_one}
use Rattle.body_theorems.proofs.After.{tab_then, still_out, After, pick}
use Rattle.body_theorems.proofs.Places.{part, part_joins, part_none, slice_outside}

-- all up to a place is collected
pub record Whole (page : List ℕ) (start at : ℕ) (r : Runs) : Type 0 where
  pub from : start ≤ at
  pub cells : r.cells ≡ part page start at

-- a run of data was entered, not inside a tab, and all before it is collected
pub record Running (page : List ℕ) (start at : ℕ) (r : Runs) : Type 0 where
  pub to : r.entered ≤ at
  pub outside : columns_of r.tab ≡ 0
  pub before : Whole page start r.entered r

-- ---- by the scan's state

-- at the block's start, in a run of data, between two runs (and where it asks), before a line ending of the block, in the look-ahead, at an answer
pub data BlockPhase : Type 0 where
  First : BlockPhase
  InLine : BlockPhase
  Between : BlockPhase
  GoesOn : BlockPhase
  LooksAhead : BlockPhase
  Ended : BlockPhase

unfoldable pub block_phase_of : ℕ → BlockPhase
block_phase_of name =
    when leb name state.bad_call then Ended
    else find name (
    (state.mdx_esm_start, First)
    ∷ (state.mdx_esm_word, InLine)
    ∷ (state.mdx_esm_inside, InLine)
    ∷ (state.mdx_esm_line_start, Between)
    ∷ (state.mdx_esm_at_end, Between)
    ∷ (state.asking, Between)
    ∷ (state.mdx_esm_verdict, Between)
    ∷ (state.mdx_esm_continuation_start, GoesOn)
    ∷ (state.mdx_esm_blank_line_before, LooksAhead)
    ∷ (state.mdx_esm_blank_line, LooksAhead)
    ∷ [])
    Ended

module _ (page : List ℕ) (start at : ℕ) (g : Regs) (r : Runs) where
  abbrev pub BlockHoldsIn : BlockPhase → Type 0
  BlockHoldsIn First = (at ≡ start) × (r.cells ≡ [])
  BlockHoldsIn InLine = Running page start at r
  BlockHoldsIn Between = Whole page start at r
  BlockHoldsIn GoesOn = Whole page start at r × (at < length page)
  BlockHoldsIn LooksAhead = Whole page start g.saved r × (g.saved < length page)
  BlockHoldsIn Ended = Unit {0}

-- no scan of a block stands inside a tab
abbrev pub BlockKept : List ℕ → ℕ → ℕ → ℕ → InTab → Regs → Runs → Type 0
BlockKept page start name at v g r = (columns_of v ≡ 0) × BlockHoldsIn page start at g r (block_phase_of name)

-- at an answer nothing is left to hold
module _ (page : List ℕ) (start : ℕ) {n at : ℕ} {v : InTab} {g : Regs} {r : Runs} {m : Move} where
  pub block_to_end : columns_of (tab_then v m) ≡ 0 → leb m.next state.bad_call ≡ true → After page (BlockKept page start) n at v g r m
  unfolding block_phase_of when◌then◌else◌
  block_to_end o h = record { kept = (o, rw h tt) }

-- ---- the states

module _ (page : List ℕ) (n start at : ℕ) (v : InTab) (g : Regs) (r : Runs) (size : length page ≡ n) (o : columns_of v ≡ 0) where
  abbrev b : ℕ
  b = byte_at page at

  abbrev Then : Move → Type 0
  Then m = After page (BlockKept page start) n at v g r m

  inside_page : eqb b end_of_page ≡ false → at < n
  inside_page e = omega (arith, place_in_lem page at e, size)

  -- ---- the word

  first_letter : at ≡ start → r.cells ≡ [] → eqb b end_of_page ≡ false → Then (eat state.mdx_esm_word (Two (Enter esm) (Enter esm_data)))
  unfolding block_phase_of find when◌then◌else◌ collect_one among
  first_letter a p e =
      record {
        kept = rw (lt-ltb at n (inside_page e))
            (refl, record { to = omega arith; outside = o; before = record { from = omega (arith, a); cells = rw a (p ∙ sym (part_none page start)) } });
      }

  esm_start_kept : (allowed : Bool) → at ≡ start → r.cells ≡ [] → Then (esm_state.start b allowed)
  esm_start_kept allowed a p = pick (λ e. first_letter a p (letter_there b (both allowed _ e).1)) (λ e. block_to_end page start (still_out v o _) refl)

  -- a byte of the run is passed
  longer : Running page start at r → Running page start (at + 1) r
  longer h = record { to = omega (arith, h.to); outside = h.outside; before = h.before }

  to_word : Running page start at r → eqb b end_of_page ≡ false → Then (eat state.mdx_esm_word Nothing)
  unfolding block_phase_of find when◌then◌else◌
  to_word h e = record { kept = rw (lt-ltb at n (inside_page e)) (refl, longer h) }

  to_inside : Running page start at r → eqb b end_of_page ≡ false → Then (eat state.mdx_esm_inside Nothing)
  unfolding block_phase_of find when◌then◌else◌
  to_inside h e = record { kept = rw (lt-ltb at n (inside_page e)) (refl, longer h) }

  esm_word_kept : (whole : Bool) → Running page start at r → Then (esm_state.word b whole)
  esm_word_kept whole h =
      pick (λ e. to_word h (word_there b e)) (λ e. pick (λ f. to_inside h (byte_there b space (both whole _ f).1 refl)) (λ f. block_to_end page start (still_out v o _) refl))

  -- ---- in a line, and at the start of one

  line_over : Running page start at r → Then (retry state.mdx_esm_line_start (One (Exit esm_data)))
  unfolding block_phase_of find when◌then◌else◌ collect_one among
  line_over h =
      let w = h.before in
      record {
        kept = (
          o,
          record {
            from = omega (arith, w.from, h.to);
            cells = ap (λ (l : List Cell). r.cells ++ l) (slice_outside page r.entered at (columns_of r.tab) h.outside)
                ∙ ap (λ (l : List Cell). l ++ part page r.entered at) w.cells
                ∙ sym (part_joins page start r.entered at w.from h.to);
          },
        );
      }

  esm_inside_kept : Running page start at r → Then (esm_state.inside b)
  esm_inside_kept h = pick (λ e. line_over h) (λ e. to_inside h (line_there b e))

  at_end_lem : Whole page start at r → Then (retry state.mdx_esm_at_end Nothing)
  unfolding block_phase_of find when◌then◌else◌
  at_end_lem w = record { kept = (o, w) }

  look : Whole page start at r → eqb b end_of_page ≡ false → Then (retry_with state.mdx_esm_blank_line_before Nothing Save)
  unfolding block_phase_of find when◌then◌else◌
  look w e = record { kept = (o, (w, place_in_lem page at e)) }

  new_line : Whole page start at r → eqb b end_of_page ≡ false → Then (eat state.mdx_esm_inside (One (Enter esm_data)))
  unfolding block_phase_of find when◌then◌else◌ collect_one among
  new_line w e =
      record {
        kept = rw (lt-ltb at n (inside_page e)) (refl, record { to = omega arith; outside = o; before = record { from = w.from; cells = w.cells } });
      }

  esm_line_kept : Whole page start at r → Then (esm_state.line_start b)
  esm_line_kept w = pick (λ e. at_end_lem w) (λ e. pick (λ f. look w (byte_there b line_feed f refl)) (λ f. new_line w e))

  esm_continuation_kept : Whole page start at r → at < length page → Then esm_state.continuation_start
  unfolding block_phase_of find when◌then◌else◌ collect_one among
  esm_continuation_kept w h =
      record {
        kept = rw (lt-ltb at n (omega (arith, h, size))) (
          refl,
          record {
            from = omega (arith, w.from);
            cells = ap (λ (l : List Cell). r.cells ++ l) (slice_outside page at (at + 1) (columns_of v) o)
                ∙ ap (λ (l : List Cell). l ++ part page at (at + 1)) w.cells
                ∙ sym (part_joins page start at (at + 1) w.from (omega arith));
          },
        );
      }

  -- ---- the look-ahead

  abbrev Looking : Type 0
  Looking = Whole page start g.saved r × (g.saved < length page)

  to_blank : Looking → Then (eat state.mdx_esm_blank_line Nothing)
  unfolding block_phase_of find when◌then◌else◌
  to_blank a = record { kept = (refl, a) }

  back_at_end : Looking → Then (retry_with state.mdx_esm_at_end Nothing Restore)
  unfolding block_phase_of find when◌then◌else◌
  back_at_end a = record { kept = (refl, a.0) }

  back_in_line : Looking → Then (retry_with state.mdx_esm_continuation_start Nothing Restore)
  unfolding block_phase_of find when◌then◌else◌
  back_in_line a = record { kept = (refl, a) }

  esm_blank_kept : Looking → Then (esm_state.blank_line b)
  esm_blank_kept a = pick (λ e. to_blank a) (λ e. pick (λ f. back_at_end a) (λ f. back_in_line a))

  -- ---- the question

  esm_end_kept : Whole page start at r → Then esm_state.at_end
  unfolding block_phase_of find when◌then◌else◌
  esm_end_kept w = record { kept = (o, w) }

  in_next_line : Whole page start at r → eqb b end_of_page ≡ false → (number : ℕ) → Then (retry_with state.mdx_esm_continuation_start Nothing (Last number))
  unfolding block_phase_of find when◌then◌else◌
  in_next_line w e number = record { kept = (o, (w, place_in_lem page at e)) }

  esm_verdict_kept : (v : Verdict) (after : Bool) (place : ℕ) → Whole page start at r → Then (esm_state.verdict v b after place)
  esm_verdict_kept Fine after place w = pick (λ e. block_to_end page start (still_out v o _) refl) (λ e. block_to_end page start (still_out v o _) refl)
  esm_verdict_kept (Unfinished number) after place w = pick (λ e. block_to_end page start (still_out v o _) refl) (λ e. in_next_line w e number)
  esm_verdict_kept (Wrong number offset) after place w = block_to_end page start (still_out v o _) refl

-- ---- every state

module _ (page : List ℕ) (t : Tokenizer) (v : InTab) (r : Runs) (size : length page ≡ t.job.length) (k : BlockKept page t.job.start t.state t.at v t.regs r) where
  abbrev Next : Move → Type 0
  Next m = After page (BlockKept page t.job.start) t.job.length t.at v t.regs r m

  -- what holds in the state that it is
  now : (name : ℕ) → t.state ≡ name → BlockHoldsIn page t.job.start t.at t.regs r (block_phase_of name)
  now name e = subst (λ (x : ℕ). BlockHoldsIn page t.job.start t.at t.regs r (block_phase_of x)) e k.1

  rows : Each Next t.state (esm_states page t (byte_at page t.at))
  unfolding block_phase_of find when◌then◌else◌
  rows =
      let n = t.job.length in
      let s = t.job.start in
      let at = t.at in
      let g = t.regs in
      let o = k.0 in
      ((λ e. esm_start_kept page n s at v g r size o (esm_allowed page t) (now _ e).0 (now _ e).1)
      & (λ e. esm_word_kept page n s at v g r size o (is_word page s at) (now _ e))
      & (λ e. esm_inside_kept page n s at v g r size o (now _ e))
      & (λ e. esm_line_kept page n s at v g r size o (now _ e))
      & (λ e. esm_continuation_kept page n s at v g r size o (now _ e).0 (now _ e).1)
      & (λ e. to_blank page n s at v g r size o (now _ e))
      & (λ e. esm_blank_kept page n s at v g r size o (now _ e))
      & (λ e. esm_end_kept page n s at v g r size o (now _ e))
      & (λ e. esm_verdict_kept page n s at v g r size o t.heard (after_line_feed page at) (esm_fault t.heard s at) (now _ e))
      & tt)

  pub block_kept : of_esm t.state ≡ true → Next (decision page t (byte_at page t.at))
  block_kept l = of_every_esm_state Next page t (byte_at page t.at) l rows
