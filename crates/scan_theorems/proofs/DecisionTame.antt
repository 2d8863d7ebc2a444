-- Every decision is tame. No test matters but two: a quote is a byte, and a verdict that is heard is in range.
use Prim.Native.Nat.{ℕ}
use mathlib.Core.Path.{◌≡◌, refl}
use mathlib.Core.Bool.{Bool, true, false}
use mathlib.Core.List.{List}
use lib.Dec.{leb, eqb}
use borrow.Author.Tests.{eqb-true}
use Rattle.base.proofs.Tables.{◌&◌, Each}
use Rattle.base.specs.If.{among}
use Rattle.base.proofs.Choice.{if_is, case, both}
use Rattle.base.specs.Byte.{quotation_mark, apostrophe}
use Rattle.base.specs.Range.{within}
use Rattle.base.specs.declared.Move.{Move}
use Rattle.base.specs.declared.Verdict.{Verdict}
use Rattle.base.specs.declared.Verdict.TheVariants.{Fine, Unfinished, Wrong}
use Rattle.mdx_expression.specs.Expression as expression
use Rattle.mdx_jsx_attribute.specs.Attribute as attribute
use Rattle.mdx_esm.specs.Esm as esm
use Rattle.tokenizer.specs.Decision.{expression_states, tag_states, attribute_states, esm_states, decision}
use Rattle.tokenizer.specs.Ranges.{is_return, verdict_in_range}
use Rattle.tokenizer.specs.declared.Tokenizer.{Tokenizer}
use Rattle.scan_theorems.proofs.Tests.{clash}
use Rattle.scan_theorems.proofs.EveryState.{of_tags, of_esm, of_every_tag_state, of_every_esm_state}
use Rattle.scan_theorems.proofs.Tame.{Tame, tame, either, return_stands, tames}

-- the quotes that open a value are bytes
quote_small : (b : ℕ) → attribute.opens_value b ≡ true → leb b 255 ≡ true
unfolding among
quote_small b h =
    case _ (eqb b quotation_mark) (λ e. rw (eqb-true b quotation_mark e))
    (λ e. case _ (eqb b apostrophe) (λ f. rw (eqb-true b apostrophe f))
    (λ f. clash false (rw (e, f) at h) refl))

value_tame : (b : ℕ) → Tame false (attribute.attribute_value_before b)
unfolding is_return within
value_tame b = if_is Move (Tame false) _ _ _ (λ e. tame refl (quote_small b e)) (λ e. search tames depth 12)

-- what a verdict in range decides
number_small : (n : ℕ) → within 1 65535 n ≡ true → leb n 65535 ≡ true
unfolding within
number_small n h = (both (leb 1 n) (leb n 65535) h).1

verdict_tame : (v : Verdict) (place token back : ℕ) → is_return back ≡ true → verdict_in_range v ≡ true → Tame false (expression.verdict v place token back)
unfolding verdict_in_range within
verdict_tame Fine place token back h g = tame (return_stands back h) refl
verdict_tame (Unfinished n) place token back h g = tame refl (number_small n g)
verdict_tame (Wrong n offset) place token back h g = tame refl (number_small n g)

esm_verdict_tame : (v : Verdict) (b : ℕ) (after : Bool) (place : ℕ) → verdict_in_range v ≡ true → Tame true (esm.verdict v b after place)
unfolding verdict_in_range within
esm_verdict_tame Fine b after place g = search tames depth 12
esm_verdict_tame (Unfinished n) b after place g = either true _ _ _ (tame refl (number_small n g)) (tame refl (number_small n g))
esm_verdict_tame (Wrong n offset) b after place g = tame refl (number_small n g)

module _ (page : List ℕ) (t : Tokenizer) (b : ℕ) where
  esm_tame : verdict_in_range t.heard ≡ true → Each (Tame true) t.state (esm_states page t b)
  unfolding within
  esm_tame v =
      ((λ k. search tames depth 12)
      & (λ k. search tames depth 12)
      & (λ k. search tames depth 12)
      & (λ k. search tames depth 12)
      & (λ k. search tames depth 12)
      & (λ k. search tames depth 12)
      & (λ k. search tames depth 12)
      & (λ k. search tames depth 12)
      & (λ k. esm_verdict_tame t.heard b _ _ v)
      & tt)

  attribute_tame : Each (Tame false) t.state (attribute_states t b)
  unfolding is_return within
  attribute_tame =
      ((λ k. search tames depth 12)
      & (λ k. search tames depth 12)
      & (λ k. search tames depth 12)
      & (λ k. search tames depth 12)
      & (λ k. search tames depth 12)
      & (λ k. search tames depth 12)
      & (λ k. search tames depth 12)
      & (λ k. search tames depth 12)
      & (λ k. search tames depth 12)
      & (λ k. value_tame b)
      & (λ k. search tames depth 12)
      & tt)

  tag_tame : is_return t.regs.back ≡ true → Each (Tame false) t.state (tag_states t b)
  unfolding is_return within
  tag_tame h =
      let back = return_stands t.regs.back h in
      ((λ k. search tames depth 12)
      & (λ k. search tames depth 12)
      & (λ k. search tames depth 12)
      & (λ k. search tames depth 12)
      & (λ k. search tames depth 12)
      & (λ k. search tames depth 12)
      & (λ k. search tames depth 12)
      & (λ k. search tames depth 12)
      & (λ k. search tames depth 12)
      & (λ k. search tames depth 12)
      & (λ k. search tames depth 12)
      & (λ k. search tames depth 12)
      & (λ k. search tames depth 12)
      & (λ k. search tames depth 12)
      & (λ k. search (tames, back) depth 12)
      & (λ k. search (tames, back) depth 12)
      & (λ k. search tames depth 12)
      & (λ k. search (tames, back) depth 12)
      & (λ k. search tames depth 12)
      & tt)

  expression_tame : is_return t.regs.back ≡ true → verdict_in_range t.heard ≡ true → Each (Tame false) t.state (expression_states page t b)
  unfolding within
  expression_tame h v =
      let back = return_stands t.regs.back h in
      ((λ k. search tames depth 12)
      & (λ k. search (tames, back) depth 12)
      & (λ k. search tames depth 12)
      & (λ k. search tames depth 12)
      & (λ k. search tames depth 12)
      & (λ k. verdict_tame t.heard _ _ t.regs.back h v)
      & tt)

  -- in a state of an expression or a tag
  pub low_tame : is_return t.regs.back ≡ true → verdict_in_range t.heard ≡ true → of_tags t.state ≡ true → Tame false (decision page t b)
  unfolding within
  low_tame h v l = of_every_tag_state (Tame false) page t b l (tame refl refl) (expression_tame h v) (tag_tame h) attribute_tame

  -- in a state of an ESM block
  pub high_tame : verdict_in_range t.heard ≡ true → of_esm t.state ≡ true → Tame true (decision page t b)
  high_tame v l = of_every_esm_state (Tame true) page t b l (esm_tame v)
