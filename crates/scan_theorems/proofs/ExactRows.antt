-- Rows 5, 6, 7 and 10, exactly when: what the decisions' ends and the room say of one step.
use Prim.Native.Nat.{ℕ, ◌-◌, ◌≤◌}
use native.Mathlib.Omega.{arith}
use native.Mathlib.Decide.{dec_le}
use mathlib.Core.Path.{◌≡◌, refl, sym, ap, ◌∙◌}
use mathlib.Core.Logic.{by_cases}
use mathlib.Core.Bool.{Bool, true, false, not, ◌&&◌, ◌||◌}
use mathlib.Core.List.{List}
use lib.Dec.{ltb, eqb}
use lib.ListN.{length}
use borrow.Author.Tests.{ltb-true, lt-ltb, le-ltb, ne_eqb}
use Rattle.base.proofs.Tables.{◌&◌, found}
use Rattle.base.specs.Byte.{end_of_page}
use Rattle.base.specs.If.{when◌then◌else◌, among}
use Rattle.base.proofs.Choice.{case, both, and_no, and_no', or_left, or_right}
use Rattle.base.specs.Range.{within}
use Rattle.base.proofs.Ranges.{within_is, is_within, all_hold}
use Rattle.base.specs.Table.{find}
use Rattle.base.specs.Page.{byte_at}
use Rattle.base.specs.State as state
use Rattle.base.specs.Decide.{retry, list_of, count_of}
use Rattle.base.specs.declared.Marks.TheVariants.{Nothing}
use Rattle.base.specs.declared.Move.{Move}
use Rattle.events.specs.Words.{room_in}
use Rattle.events.proofs.Laws.{count_is}
use Rattle.tokenizer.specs.Decision.{refuses_not_ascii, not_ascii, takes_ascii, state_decision, decision}
use Rattle.tokenizer.specs.Moved.{moved}
use Rattle.tokenizer.specs.Ranges.{esm, in_range}
use Rattle.scan.specs.declared.Scan.{Scan}
use Rattle.scan.specs.Scan.{choice, lacks, carried_out, marks_at, step_scan}
use Rattle.scan.specs.Call.{scan_in_range}
use Rattle.scan_theorems.specs.Rows.{tag_state, takes_any_byte, not_ascii_met, end_met, way_on, too_many_events, RowsOf}
use Rattle.scan_theorems.specs.Statement.{ExactRows}
use Rattle.scan_theorems.proofs.Tests.{clash}
use Rattle.scan_theorems.proofs.Endings.{Ending, ending, tag_state_ends, esm_state_ends}
use Rattle.scan_theorems.proofs.Parts.{parts, low, high}

-- ---- what the tables say of the states' numbers

-- two tests that come out alike
alike : Bool → Bool → Bool
alike true b = b
alike false b = not b

alike_is : (a b : Bool) → alike a b ≡ true → a ≡ b
unfolding alike
alike_is true true e = refl
alike_is true false e = sym e
alike_is false true e = e
alike_is false false e = refl

-- the states that take ASCII bytes alone are the tag states but three
ascii_states : (n : ℕ) → 32 ≤ n → n ≤ 76 → takes_ascii n ≡ (tag_state n && not (takes_any_byte n))
unfolding alike within among
ascii_states n l h = alike_is _ _ (all_hold (λ (x : ℕ). alike (takes_ascii x) (tag_state x && not (takes_any_byte x))) 45 32 n refl l (omega arith))

-- outside a tag there is always a way on
way_outside : (n b : ℕ) → 32 ≤ n → n ≤ 76 → tag_state n ≡ false → way_on n b ≡ true
unfolding way_on find when◌then◌else◌
way_outside n b l h f =
    by_cases (dec_le n 37) (λ (s : n ≤ 37). all_hold (λ (x : ℕ). way_on x b) 6 32 n refl l (omega arith))
    (λ s. by_cases (dec_le n 67) (λ (u : n ≤ 67). clash (tag_state n) (within_yes n s u) f) (λ u. all_hold (λ (x : ℕ). way_on x b) 9 68 n refl (omega (arith, u)) (omega arith)))
  where
    within_yes : (k : ℕ) → (k ≤ 37 → ⊥) → k ≤ 67 → tag_state k ≡ true
    within_yes k s u = is_within 38 67 k (omega (arith, s)) u

-- where the page has not ended, row 6 is not met
no_end : (n b last : ℕ) → eqb b end_of_page ≡ false → end_met n b last ≡ false
unfolding end_met
no_end n b last e = found (λ (x : Bool). x ≡ false) n _ false ((λ k. e) & (λ k. and_no _ _ e) & tt) refl

-- ---- one step

module _ (page : List ℕ) (s : Scan) (l : 32 ≤ s.tokenizer.state) (h : s.tokenizer.state ≤ 76)
    (ends : Ending (end_met s.tokenizer.state (byte_at page s.tokenizer.at) s.tokenizer.regs.last) (way_on s.tokenizer.state (byte_at page s.tokenizer.at)) (state_decision page s.tokenizer (byte_at page s.tokenizer.at))) where
  abbrev n : ℕ
  n = s.tokenizer.state

  abbrev b : ℕ
  b = byte_at page s.tokenizer.at

  abbrev m : Move
  m = state_decision page s.tokenizer b

  -- row 5's words are the test that comes first
  five_is : refuses_not_ascii n b ≡ not_ascii_met n b
  five_is = swap (not_ascii b) (takes_ascii n) (tag_state n) (not (takes_any_byte n)) (ascii_states n l h)
    where
      swap : (a c d e : Bool) → c ≡ (d && e) → (a && c) ≡ (d && (e && a))
      swap true c true true q = q
      swap true c true false q = q
      swap true c false e q = q
      swap false c true true q = refl
      swap false c true false q = refl
      swap false c false e q = refl

  -- the state after the step, and whether its events are too many, by what is decided
  next_is : (x : Move) → choice page s ≡ x → ((step_scan page s).tokenizer.state ≡ (carried_out s x).next) × (too_many_events page s ≡ lacks s x)
  unfolding step_scan moved
  next_is x e = (
    ap (λ (y : Move). (carried_out s y).next) e,
    ap (λ (y : Move). ltb (room_in s.tokenizer.job.words - s.used) (length (marks_at b s (list_of y.marks)))) e ∙ ap (ltb (room_in s.tokenizer.job.words - s.used)) (count_is x.marks _ _),
  )

  refused : refuses_not_ascii n b ≡ true → RowsOf page s
  unfolding choice decision when◌then◌else◌
  refused r =
      let q = next_is (retry state.not_ascii Nothing) (rw r) in
      let none : lacks s (retry state.not_ascii Nothing) ≡ false = le-ltb (room_in s.tokenizer.job.words - s.used) 0 (omega arith) in
      let z : (step_scan page s).tokenizer.state ≡ state.not_ascii = q.0 ∙ rw none in
      let a = within_is 128 255 b (both (not_ascii b) (takes_ascii n) r).0 in
      record {
        five = rw z (sym r ∙ five_is);
        six = rw z (sym (no_end n b s.tokenizer.regs.last (ne_eqb b end_of_page (λ e. omega arith))));
        seven = rw z (sym (and_no' (tag_state n) _ (and_no _ _ (ap not (sym five_is ∙ r)))));
        ten = rw z (sym (q.1 ∙ none));
      }

  decided : refuses_not_ascii n b ≡ false → Ending (end_met n b s.tokenizer.regs.last) (way_on n b) m → RowsOf page s
  unfolding choice decision when◌then◌else◌
  decided r (ending e5 e6 e7 e10 q) =
      let x = next_is m (rw r) in
      let met = sym five_is ∙ r in
      case _ (lacks s m)
      (λ f.
      let z : (step_scan page s).tokenizer.state ≡ state.full = x.0 ∙ rw f in
      let some = lt-ltb 0 (count_of m.marks) (omega (arith, ltb-true (room_in s.tokenizer.job.words - s.used) (count_of m.marks) f)) in
      let quiet = quiet_of (eqb m.next state.eof || eqb m.next state.unexpected) (ltb 0 (count_of m.marks)) q some in
      record {
        five = rw z (sym met);
        six = rw z (sym (sym e6 ∙ or_left _ _ quiet));
        seven = rw z (sym (and_no' (tag_state n) _ (and_no' (not (not_ascii_met n b)) _ (sym e7 ∙ or_right (eqb m.next state.eof) _ quiet))));
        ten = rw z (sym (x.1 ∙ f));
      })
      (λ f.
      let z : (step_scan page s).tokenizer.state ≡ m.next = x.0 ∙ rw f in
      record {
        five = rw z (e5 ∙ sym met);
        six = rw z e6;
        seven = rw z (e7 ∙ way_is (tag_state n) (way_on n b) (not_ascii_met n b) met (λ o. way_outside n b l h o));
        ten = rw z (e10 ∙ sym (x.1 ∙ f));
      })
    where
      quiet_of : (a c : Bool) → (a && c) ≡ false → c ≡ true → a ≡ false
      quiet_of true c p k = clash c k p
      quiet_of false c p k = refl

      way_is : (d w k : Bool) → k ≡ false → (d ≡ false → w ≡ true) → not w ≡ (d && (not k && not w))
      way_is true w k p o = rw p
      way_is false w k p o = rw (o refl)

  pub rows_of : RowsOf page s
  rows_of = case _ (refuses_not_ascii n b) refused (λ r. decided r ends)

-- every step of a scan in range that does not rest
pub exact_rows : ExactRows
unfolding scan_in_range
exact_rows page s g r =
    let p = parts s.tokenizer (both (in_range s.tokenizer) _ g).0 in
    let c = s.tokenizer.job.construct in
    let b = byte_at page s.tokenizer.at in
    case _ (eqb c esm)
    (λ e.
    let k = high c s.tokenizer.state e p.state r in
    let w = within_is 68 76 s.tokenizer.state k in
    rows_of page s (omega arith) (omega arith) (esm_state_ends page s.tokenizer b p.regs.back k))
    (λ e.
    let k = low c s.tokenizer.state e p.state r in
    let w = within_is 32 67 s.tokenizer.state k in
    rows_of page s (omega arith) (omega arith) (tag_state_ends page s.tokenizer b p.regs.back k))
