-- How the decisions of the states end a scan: with 6 at the page's end, with 7 where a tag state has no way on, and with 5 or 10 never. A
-- decision that ends it so writes no event.
use Prim.Native.Nat.{ℕ, ◌≤◌}
use native.Mathlib.Omega.{arith}
use mathlib.Core.Path.{◌≡◌, refl}
use mathlib.Core.Bool.{Bool, true, false, not, ◌&&◌, ◌||◌}
use mathlib.Core.List.{List}
use lib.Dec.{ltb, eqb}
use borrow.Author.Tests.{ne_eqb, eqb-true}
use Rattle.base.proofs.Tables.{◌&◌, Each}
use Rattle.base.specs.Byte.{line_feed, end_of_page}
use Rattle.base.specs.If.{when◌then◌else◌}
use Rattle.base.proofs.Choice.{if_is, and_no, or_no, or_cases}
use Rattle.base.proofs.Ranges.{within_is}
use Rattle.base.specs.Table.{find}
use Rattle.base.specs.State as state
use Rattle.base.specs.Decide.{count_of}
use Rattle.base.specs.declared.Move.{Move}
use Rattle.base.specs.declared.Verdict.{Verdict}
use Rattle.base.specs.declared.Verdict.TheVariants.{Fine, Unfinished, Wrong}
use Rattle.mdx_expression.specs.Expression as expression
use Rattle.mdx_jsx_attribute.specs.Attribute as attribute
use Rattle.mdx_esm.specs.Esm as esm
use Rattle.tokenizer.specs.Decision.{expression_states, tag_states, attribute_states, esm_states, state_decision}
use Rattle.tokenizer.specs.Ranges.{is_return}
use Rattle.tokenizer.specs.declared.Tokenizer.{Tokenizer}
use Rattle.scan_theorems.specs.Rows.{end_met, way_on}
use Rattle.scan_theorems.proofs.EveryState.{of_tags, of_esm, tag_state_decides, esm_state_decides}

-- it ends the scan with 6 or 7, and writes events
abbrev pub loud : Move → Bool
loud m = (eqb m.next state.eof || eqb m.next state.unexpected) && ltb 0 (count_of m.marks)

-- it ends with 6 if e, and with 7 if there is no way on
pub data Ending (e way : Bool) (m : Move) : Type 0 where
  ending : eqb m.next state.not_ascii ≡ false → eqb m.next state.eof ≡ e → eqb m.next state.unexpected ≡ not way → eqb m.next state.full ≡ false → loud m ≡ false → Ending e way m

-- a test that leads on, and then the rest; the last test before there is no way on; a choice of two that end alike
on : (t way : Bool) (x y : Move) → Ending false true x → Ending false way y → Ending false (t || way) (when t then x else y)
unfolding when◌then◌else◌
on true way x y p q = p
on false way x y p q = q

last : (t : Bool) (x y : Move) → Ending false true x → Ending false false y → Ending false t (when t then x else y)
unfolding when◌then◌else◌
last true x y p q = p
last false x y p q = q

alike : (e way t : Bool) (x y : Move) → Ending e way x → Ending e way y → Ending e way (when t then x else y)
alike e way t x y p q = if_is Move (Ending e way) t x y (λ h. p) (λ h. q)

ruleset endings = (on, last, alike, ending, refl)

-- a state that white space or an expression returns to is none of these ends
other : (back k : ℕ) → is_return back ≡ true → 5 ≤ k → k ≤ 10 → eqb back k ≡ false
unfolding is_return
other back k h l m =
    or_cases _ (eqb back 0) _ h (λ e. ne_eqb back k (λ q. omega (arith, eqb-true back 0 e)))
    (λ e. ne_eqb back k (λ q. omega (arith, within_is state.mdx_jsx_attribute_value_quoted_start state.mdx_jsx_attribute_value_expression_after back e)))

returned : (m : Move) → is_return m.next ≡ true → Ending false true m
returned m h =
    ending (other m.next 5 h (omega arith) (omega arith)) (other m.next 6 h (omega arith) (omega arith)) (other m.next 7 h (omega arith) (omega arith)) (other m.next 10 h (omega arith) (omega arith))
    (and_no _ _ (or_no _ _ (other m.next 6 h (omega arith) (omega arith)) (other m.next 7 h (omega arith) (omega arith))))

-- ---- expressions

-- at the page's end it is 6, unless an unfinished verdict stands
at_end_lem : (t u : Bool) (x y z : Move) → Ending true true x → Ending false true y → Ending false true z → Ending (t && u) true (when t then (when u then x else y) else z)
unfolding when◌then◌else◌
at_end_lem true true x y z p q r = p
at_end_lem true false x y z p q r = q
at_end_lem false u x y z p q r = r

before_ends : (b depth : ℕ) (asks : Bool) (last token back : ℕ) → is_return back ≡ true → Ending (eqb b end_of_page && eqb last 0) true (expression.before b depth asks last token back)
before_ends b depth asks last token back h =
    at_end_lem (eqb b end_of_page) (eqb last 0) _ _ _ (search endings) (search endings)
    (alike false true (eqb b line_feed) _ _ (search endings)
    (alike false true (expression.closes b depth) _ _ (alike false true asks _ _ (search endings) (returned (expression.close token back) h)) (search endings)))

verdict_ends : (v : Verdict) (place token back : ℕ) → is_return back ≡ true → Ending false true (expression.verdict v place token back)
verdict_ends Fine place token back h = returned _ h
verdict_ends (Unfinished n) place token back h = search endings
verdict_ends (Wrong n offset) place token back h = search endings

esm_verdict_ends : (v : Verdict) (b : ℕ) (after : Bool) (place : ℕ) → Ending false true (esm.verdict v b after place)
esm_verdict_ends Fine b after place = search endings depth 12
esm_verdict_ends (Unfinished n) b after place = search endings depth 12
esm_verdict_ends (Wrong n offset) b after place = search endings depth 12

-- ---- tags

first : (t : Bool) (x y : Move) → Ending true true x → Ending false true y → Ending t true (when t then x else y)
unfolding when◌then◌else◌
first true x y p q = p
first false x y p q = q

quoted_start_ends : (b quote : ℕ) → Ending (eqb b end_of_page) true (attribute.attribute_value_quoted_start b quote)
quoted_start_ends b quote = first (eqb b end_of_page) _ _ (search endings) (search endings depth 12)

-- ---- every state

module _ (page : List ℕ) (t : Tokenizer) (b : ℕ) (h : is_return t.regs.back ≡ true) where
  -- what row 6 and row 7 say of the state
  abbrev pub Here : Move → Type 0
  Here m = Ending (end_met t.state b t.regs.last) (way_on t.state b) m

  expression_ends : Each Here t.state (expression_states page t b)
  unfolding end_met way_on find when◌then◌else◌
  expression_ends =
      ((λ k. rw k (search endings depth 12))
      & (λ k. rw k (before_ends b t.regs.depth t.job.asks t.regs.last _ t.regs.back h))
      & (λ k. rw k (search endings depth 12))
      & (λ k. rw k (search endings depth 12))
      & (λ k. rw k (search endings depth 12))
      & (λ k. rw k (verdict_ends t.heard _ _ t.regs.back h))
      & tt)

  tag_ends : Each Here t.state (tag_states t b)
  unfolding end_met way_on find when◌then◌else◌
  tag_ends =
      ((λ k. rw k (search endings depth 12))
      & (λ k. rw k (search endings depth 12))
      & (λ k. rw k (search endings depth 12))
      & (λ k. rw k (search endings depth 12))
      & (λ k. rw k (search endings depth 12))
      & (λ k. rw k (search endings depth 12))
      & (λ k. rw k (search endings depth 12))
      & (λ k. rw k (search endings depth 12))
      & (λ k. rw k (search endings depth 12))
      & (λ k. rw k (search endings depth 12))
      & (λ k. rw k (search endings depth 12))
      & (λ k. rw k (search endings depth 12))
      & (λ k. rw k (search endings depth 12))
      & (λ k. rw k (search endings depth 12))
      & (λ k. rw k (search (endings, returned) depth 12))
      & (λ k. rw k (search (endings, returned) depth 12))
      & (λ k. rw k (search endings depth 12))
      & (λ k. rw k (search (endings, returned) depth 12))
      & (λ k. rw k (search endings depth 12))
      & tt)

  attribute_ends : Each Here t.state (attribute_states t b)
  unfolding end_met way_on find when◌then◌else◌
  attribute_ends =
      ((λ k. rw k (quoted_start_ends b t.regs.quote))
      & (λ k. rw k (search endings depth 12))
      & (λ k. rw k (search endings depth 12))
      & (λ k. rw k (search endings depth 12))
      & (λ k. rw k (search endings depth 12))
      & (λ k. rw k (search endings depth 12))
      & (λ k. rw k (search endings depth 12))
      & (λ k. rw k (search endings depth 12))
      & (λ k. rw k (search endings depth 12))
      & (λ k. rw k (search endings depth 12))
      & (λ k. rw k (search endings depth 12))
      & tt)

  -- in an ESM block there is always a way on
  esm_ends : Each Here t.state (esm_states page t b)
  unfolding end_met way_on find when◌then◌else◌
  esm_ends =
      ((λ k. rw k (search endings depth 12))
      & (λ k. rw k (search endings depth 12))
      & (λ k. rw k (search endings depth 12))
      & (λ k. rw k (search endings depth 12))
      & (λ k. rw k (search endings depth 12))
      & (λ k. rw k (search endings depth 12))
      & (λ k. rw k (search endings depth 12))
      & (λ k. rw k (search endings depth 12))
      & (λ k. rw k (esm_verdict_ends t.heard b _ _))
      & tt)

  pub tag_state_ends : of_tags t.state ≡ true → Here (state_decision page t b)
  tag_state_ends l = tag_state_decides Here page t b l expression_ends tag_ends attribute_ends

  pub esm_state_ends : of_esm t.state ≡ true → Here (state_decision page t b)
  esm_state_ends l = esm_state_decides Here page t b l esm_ends
