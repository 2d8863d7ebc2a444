-- A scan without a verdict source comes to no state that needs one: it does not ask, so no verdict is applied, none is left unfinished, and
-- none ends it. An ESM block does not get past its start.
use Prim.Native.Nat.{ℕ}
use native.Mathlib.Omega.{arith}
use mathlib.Core.Path.{◌≡◌, refl, ◌∙◌}
use mathlib.Core.Bool.{Bool, true, false, not, ◌||◌}
use mathlib.Core.List.{List}
use lib.Dec.{ltb, eqb}
use borrow.Author.Tests.{eqb-true}
use Rattle.base.proofs.Tables.{◌&◌, Each}
use Rattle.base.specs.Byte.{line_feed, end_of_page}
use Rattle.base.specs.If.{when◌then◌else◌}
use Rattle.base.proofs.Choice.{if_is, and_no, and_no', or_cases, not_yes}
use Rattle.base.proofs.Ranges.{within_is, all_hold}
use Rattle.base.specs.Page.{byte_at, in_column_one}
use Rattle.base.specs.State as state
use Rattle.base.specs.Decide.{retry}
use Rattle.base.specs.declared.Marks.TheVariants.{Nothing}
use Rattle.base.specs.declared.Effect.{Effect}
use Rattle.base.specs.declared.Effect.TheVariants.{Keep, Deeper, Shallower, Open, PrefixBegins, PrefixGoesOn, PrefixEnds, PrefixInTab, Quote, Return, Save, Restore, Last, Fault, Refuse}
use Rattle.base.specs.declared.Move.{Move}
use Rattle.mdx_expression.specs.Expression as expression
use Rattle.mdx_esm.specs.Esm as esm
use Rattle.tokenizer.specs.Decision.{esm_allowed, expression_states, tag_states, attribute_states, esm_states, decision}
use Rattle.tokenizer.specs.Moved.{changed, moved}
use Rattle.tokenizer.specs.Ranges.{is_return}
use Rattle.tokenizer.specs.declared.Regs.{Regs}
use Rattle.tokenizer.specs.declared.Tokenizer.{Tokenizer}
use Rattle.scan_theorems.proofs.Tests.{clash}
use Rattle.scan_theorems.proofs.EveryState.{of_tags, of_esm, of_every_tag_state, of_every_esm_state}

-- the states that only a scan with a verdict source comes to; an ESM block's are those above its start
abbrev pub needs_verdict : ℕ → Bool
needs_verdict name =
    eqb name state.verdict_error
    || (eqb name state.verdict_eof
    || (eqb name state.asking
    || (eqb name state.mdx_expression_verdict
    || ltb state.mdx_esm_start name)))

-- the number of the last unfinished verdict stays as it is
abbrev last_stays : Effect → Bool
last_stays Keep = true
last_stays Deeper = true
last_stays Shallower = true
last_stays Open = true
last_stays PrefixBegins = true
last_stays PrefixGoesOn = true
last_stays PrefixEnds = true
last_stays (PrefixInTab passed) = true
last_stays (Quote b) = true
last_stays (Return name) = true
last_stays Save = true
last_stays Restore = true
last_stays (Last n) = false
last_stays (Fault n place) = false
last_stays (Refuse site note) = true

-- a decision that has to do with no verdict
data Unasked (m : Move) : Type 0 where
  unasked : needs_verdict m.next ≡ false → last_stays m.effect ≡ true → Unasked m

either : (t : Bool) (x y : Move) → Unasked x → Unasked y → Unasked (when t then x else y)
either t x y p q = if_is Move Unasked t x y (λ h. p) (λ h. q)

return_needs_none : (back : ℕ) → is_return back ≡ true → needs_verdict back ≡ false
unfolding is_return
return_needs_none back h =
    or_cases _ (eqb back 0) _ h (λ e. rw (eqb-true back 0 e))
    (λ e.
    let w = within_is state.mdx_jsx_attribute_value_quoted_start state.mdx_jsx_attribute_value_expression_after back e in
    not_yes (needs_verdict back) (all_hold (λ (x : ℕ). not (needs_verdict x)) 16 40 back refl w.0 (omega (arith, w.1))))

returned : (m : Move) → is_return m.next ≡ true → last_stays m.effect ≡ true → Unasked m
returned m h s = unasked (return_needs_none m.next h) s

ruleset unaskeds = (either, unasked, refl)

-- ---- the states that look for a verdict source

-- a `}` closes without a question, and at the page's end no unfinished verdict stands
before_unasked : (b depth : ℕ) (asks : Bool) (last token back : ℕ)
    → asks ≡ false → last ≡ 0 → is_return back ≡ true → Unasked (expression.before b depth asks last token back)
before_unasked b depth asks last token back a z h =
    either (eqb b end_of_page) _ _ (if_is Move Unasked (eqb last 0) _ _ (λ e. unasked refl refl) (λ e. clash (eqb last 0) (rw z refl) e))
    (either (eqb b line_feed) _ _ (unasked refl refl)
    (either (expression.closes b depth) _ _ (if_is Move Unasked asks _ _ (λ e. clash asks e a) (λ e. returned (expression.close token back) h refl)) (unasked refl refl)))

-- an ESM block does not begin
esm_start_unasked : (b : ℕ) (allowed : Bool) → allowed ≡ false → Unasked (esm.start b allowed)
esm_start_unasked b allowed a =
    if_is Move Unasked (esm.begins b allowed) _ _ (λ e. clash (esm.begins b allowed) e (and_no allowed _ a)) (λ e. unasked refl refl)

-- ---- every state

-- a tokenizer without a verdict source, in a state that needs none
pub record Counts (t : Tokenizer) : Type 0 where
  pub silent : t.job.asks ≡ false
  pub none : t.regs.last ≡ 0
  pub free : needs_verdict t.state ≡ false

module _ (page : List ℕ) (t : Tokenizer) (b : ℕ) (c : Counts t) where
  -- a state that needs one is not there
  never : {A : Type 0} (name : ℕ) → needs_verdict name ≡ true → t.state ≡ name → A
  never name h k = clash (needs_verdict t.state) (rw k h) c.free

  expression_unasked : is_return t.regs.back ≡ true → Each Unasked t.state (expression_states page t b)
  expression_unasked h =
      ((λ k. search unaskeds depth 12)
      & (λ k. before_unasked b t.regs.depth t.job.asks t.regs.last _ t.regs.back c.silent c.none h)
      & (λ k. search unaskeds depth 12)
      & (λ k. search unaskeds depth 12)
      & (λ k. search unaskeds depth 12)
      & never state.mdx_expression_verdict refl
      & tt)

  tag_unasked : is_return t.regs.back ≡ true → Each Unasked t.state (tag_states t b)
  tag_unasked h =
      ((λ k. search unaskeds depth 12)
      & (λ k. search unaskeds depth 12)
      & (λ k. search unaskeds depth 12)
      & (λ k. search unaskeds depth 12)
      & (λ k. search unaskeds depth 12)
      & (λ k. search unaskeds depth 12)
      & (λ k. search unaskeds depth 12)
      & (λ k. search unaskeds depth 12)
      & (λ k. search unaskeds depth 12)
      & (λ k. search unaskeds depth 12)
      & (λ k. search unaskeds depth 12)
      & (λ k. search unaskeds depth 12)
      & (λ k. search unaskeds depth 12)
      & (λ k. search unaskeds depth 12)
      & (λ k. search (unaskeds, returned) depth 12)
      & (λ k. search (unaskeds, returned) depth 12)
      & (λ k. search unaskeds depth 12)
      & (λ k. search (unaskeds, returned) depth 12)
      & (λ k. search unaskeds depth 12)
      & tt)

  attribute_unasked : Each Unasked t.state (attribute_states t b)
  attribute_unasked =
      ((λ k. search unaskeds depth 12)
      & (λ k. search unaskeds depth 12)
      & (λ k. search unaskeds depth 12)
      & (λ k. search unaskeds depth 12)
      & (λ k. search unaskeds depth 12)
      & (λ k. search unaskeds depth 12)
      & (λ k. search unaskeds depth 12)
      & (λ k. search unaskeds depth 12)
      & (λ k. search unaskeds depth 12)
      & (λ k. search unaskeds depth 12)
      & (λ k. search unaskeds depth 12)
      & tt)

  esm_unasked : Each Unasked t.state (esm_states page t b)
  esm_unasked =
      ((λ k. esm_start_unasked b (esm_allowed page t) (and_no' (not t.job.interrupt) _ (and_no t.job.asks (in_column_one page t.at) c.silent)))
      & never state.mdx_esm_word refl
      & never state.mdx_esm_inside refl
      & never state.mdx_esm_line_start refl
      & never state.mdx_esm_continuation_start refl
      & never state.mdx_esm_blank_line_before refl
      & never state.mdx_esm_blank_line refl
      & never state.mdx_esm_at_end refl
      & never state.mdx_esm_verdict refl
      & tt)

-- ---- what a scan keeps

last_kept : (e : Effect) (at next : ℕ) (r : Regs) → last_stays e ≡ true → (changed e at next r).last ≡ r.last
last_kept Keep at next r h = refl
last_kept Deeper at next r h = refl
last_kept Shallower at next r h = refl
last_kept Open at next r h = refl
last_kept PrefixBegins at next r h = refl
last_kept PrefixGoesOn at next r h = refl
last_kept PrefixEnds at next r h = refl
last_kept (PrefixInTab passed) at next r h = refl
last_kept (Quote b) at next r h = refl
last_kept (Return name) at next r h = refl
last_kept Save at next r h = refl
last_kept Restore at next r h = refl
last_kept (Last n) at next r h = clash false h refl
last_kept (Fault n place) at next r h = clash false h refl
last_kept (Refuse site note) at next r h = refl

module _ (page : List ℕ) (t : Tokenizer) (c : Counts t) where
  counts_moved : (m : Move) → Unasked m → Counts (moved t m)
  unfolding moved
  counts_moved m (unasked n s) = record { silent = c.silent; none = last_kept m.effect t.at _ t.regs s ∙ c.none; free = n }

  pub counts_tag : is_return t.regs.back ≡ true → of_tags t.state ≡ true → Counts (moved t (decision page t (byte_at page t.at)))
  counts_tag h l =
      let b = byte_at page t.at in
      counts_moved (decision page t b) (of_every_tag_state Unasked page t b l (unasked refl refl) (expression_unasked page t b c h) (tag_unasked page t b c h) (attribute_unasked page t b c))

  pub counts_esm : of_esm t.state ≡ true → Counts (moved t (decision page t (byte_at page t.at)))
  counts_esm l =
      let b = byte_at page t.at in
      counts_moved (decision page t b) (of_every_esm_state Unasked page t b l (esm_unasked page t b c))

  pub counts_full : Counts (moved t (retry state.full Nothing))
  counts_full = counts_moved (retry state.full Nothing) (unasked refl refl)
