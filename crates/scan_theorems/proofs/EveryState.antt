-- A property that holds of every row of the tables of states holds of what a tokenizer in range decides: one walk, with the property as
-- its argument. The rows are all there, so nothing is asked of the decision that no state makes.
use Prim.Native.Nat.{ℕ, ◌≤◌}
use native.Mathlib.Omega.{arith}
use native.Mathlib.Decide.{dec_le}
use mathlib.Core.Path.{◌≡◌, refl}
use mathlib.Core.Logic.{by_cases}
use mathlib.Core.Bool.{Bool, true, false, ◌||◌}
use mathlib.Core.List.{List}
use Rattle.base.specs.If.{among}
use Rattle.base.proofs.Choice.{if_is, both}
use Rattle.base.specs.Range.{within}
use Rattle.base.proofs.Ranges.{within_is, is_within, above, all_hold}
use Rattle.base.proofs.Tables.{keys, Each, found_or}
use Rattle.base.specs.Table.{find}
use Rattle.base.specs.State as state
use Rattle.base.specs.Decide.{retry}
use Rattle.base.specs.declared.Marks.TheVariants.{Nothing}
use Rattle.base.specs.declared.Move.{Move}
use Rattle.tokenizer.specs.Decision.{not_ascii, takes_ascii, refuses_not_ascii, expression_states, tag_states, attribute_states, esm_states, no_state, of_expression, of_tag, esm_decision, attribute_decision, tag_decision, expression_decision, state_decision, decision}
use Rattle.tokenizer.specs.declared.Tokenizer.{Tokenizer}
use Rattle.scan_theorems.proofs.Tests.{clash}

-- ---- one table

module _ {A : Type 0} where
  -- where the number is a row's, nothing is asked of the rest
  pub found_key : (P : A → Type 0) (n : ℕ) (es : List (ℕ × A)) (d : A) → among (keys es) n ≡ true → Each P n es → P (find n es d)
  found_key P n es d k h = found_or P n es d h (λ f. clash (among (keys es) n) k f)

-- ---- the states of an expression or a tag, and those of an ESM block

abbrev pub of_tags : ℕ → Bool
of_tags name = within state.mdx_expression_start state.mdx_jsx_es_whitespace_inside_retried name

abbrev pub of_esm : ℕ → Bool
of_esm name = within state.mdx_esm_start state.mdx_esm_verdict name

module _ (P : Move → Type 0) (page : List ℕ) (t : Tokenizer) (b : ℕ) where
  abbrev n : ℕ
  n = t.state

  in_expression : of_expression n ≡ true → Each P n (expression_states page t b) → P (expression_decision page t b)
  unfolding expression_decision among
  in_expression h rows =
      let w = within_is state.mdx_expression_start state.mdx_expression_verdict n h in
      found_key P n (expression_states page t b) no_state (all_hold (among (keys (expression_states page t b))) 6 32 n refl w.0 (omega arith)) rows

  in_tag : of_tag n ≡ true → Each P n (tag_states t b) → Each P n (attribute_states t b) → P (tag_decision t b)
  unfolding tag_decision attribute_decision among
  in_tag h rows more =
      let w = within_is state.mdx_jsx_start state.mdx_jsx_es_whitespace_inside_retried n h in
      let either = all_hold (λ (x : ℕ). among (keys (tag_states t b)) x || among (keys (attribute_states t b)) x) 30 38 n refl w.0 (omega arith) in
      found_or P n (tag_states t b) (find n (attribute_states t b) no_state) rows (λ f. found_key P n (attribute_states t b) no_state (rw f at either) more)

  in_esm : of_esm n ≡ true → Each P n (esm_states page t b) → P (esm_decision page t b)
  unfolding esm_decision among
  in_esm h rows =
      let w = within_is state.mdx_esm_start state.mdx_esm_verdict n h in
      found_key P n (esm_states page t b) no_state (all_hold (among (keys (esm_states page t b))) 9 68 n refl w.0 (omega arith)) rows

  -- in an expression or a tag: what the state decides, behind the test for bytes that are not ASCII
  pub tag_state_decides : of_tags n ≡ true → Each P n (expression_states page t b) → Each P n (tag_states t b) → Each P n (attribute_states t b) → P (state_decision page t b)
  unfolding state_decision
  tag_state_decides h e g a =
      let w = within_is state.mdx_expression_start state.mdx_jsx_es_whitespace_inside_retried n h in
      if_is Move P (of_expression n) _ _ (λ x. in_expression x e) (λ x. if_is Move P (of_tag n) _ _ (λ y. in_tag y g a) (λ y. absurd (outside n x y w.0 w.1)))
    where
      outside : (k : ℕ) → of_expression k ≡ false → of_tag k ≡ false → 32 ≤ k → k ≤ 67 → ⊥
      outside k x y l m = by_cases (dec_le k 37) (λ (s : k ≤ 37). clash (of_expression k) (is_within 32 37 k l s) x) (λ s. clash (of_tag k) (is_within 38 67 k (omega (arith, s)) m) y)

  pub of_every_tag_state : of_tags n ≡ true → P (retry state.not_ascii Nothing) → Each P n (expression_states page t b) → Each P n (tag_states t b) → Each P n (attribute_states t b) → P (decision page t b)
  unfolding decision
  of_every_tag_state h p e g a = if_is Move P (refuses_not_ascii n b) _ _ (λ r. p) (λ r. tag_state_decides h e g a)

  -- in an ESM block: no state of it refuses a byte before it runs
  pub esm_state_decides : of_esm n ≡ true → Each P n (esm_states page t b) → P (state_decision page t b)
  unfolding state_decision
  esm_state_decides h rows =
      let w = within_is state.mdx_esm_start state.mdx_esm_verdict n h in
      if_is Move P (of_expression n) _ _ (λ x. clash (of_expression n) x (above 32 37 n (omega arith)))
      (λ x. if_is Move P (of_tag n) _ _ (λ y. clash (of_tag n) y (above 38 67 n (omega arith))) (λ y. in_esm h rows))

  pub of_every_esm_state : of_esm n ≡ true → Each P n (esm_states page t b) → P (decision page t b)
  unfolding decision
  of_every_esm_state h rows =
      let w = within_is state.mdx_esm_start state.mdx_esm_verdict n h in
      if_is Move P (refuses_not_ascii n b) _ _
      (λ r. clash (takes_ascii n) (both (not_ascii b) (takes_ascii n) r).1 (above state.mdx_jsx_name_before state.mdx_jsx_es_whitespace_inside_retried n (omega arith)))
      (λ r. esm_state_decides h rows)
