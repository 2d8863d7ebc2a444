-- Every decision of an expression or a tag sinks, whatever the prices: the lemmas of the states, lifted over the tables of `decision`.
use Prim.Native.Nat.{ℕ}
use mathlib.Core.Path.{◌≡◌, refl}
use mathlib.Core.Bool.{true}
use mathlib.Core.List.{List}
use Rattle.base.proofs.Tables.{◌&◌, Each}
use Rattle.base.specs.If.{when◌then◌else◌}
use Rattle.base.specs.Range.{within}
use Rattle.base.specs.Table.{find}
use Rattle.base.specs.declared.Move.{Move}
use Rattle.tokenizer.specs.Decision.{tag_token, expression_token, expression_fault, expression_states, tag_states, attribute_states, decision}
use Rattle.tokenizer.specs.Ranges.{is_return}
use Rattle.tokenizer.specs.declared.Tokenizer.{Tokenizer}
use Rattle.scan_theorems.proofs.EveryState.{of_tags, tag_state_decides, of_every_tag_state}
use Rattle.scan_theorems.proofs.Price.{Prices}
use Rattle.scan_theorems.proofs.Rank.{rank, returns}
use Rattle.scan_theorems.proofs.Sinks.{Sinks, ends, pays}
use Rattle.scan_theorems.proofs.ExpressionSinks as expression
use Rattle.scan_theorems.proofs.TagSinks as tag
use Rattle.scan_theorems.proofs.NameSinks as name
use Rattle.scan_theorems.proofs.AttributeSinks as attribute

module _ (p : Prices) (page : List ℕ) (t : Tokenizer) (b : ℕ) where
  abbrev here : Move → Type 0
  here m = Sinks p t.at t.regs b (rank p t.state b t.regs) m

  attribute_sinks : Each here t.state (attribute_states t b)
  unfolding rank returns is_return within find when◌then◌else◌
  attribute_sinks =
      let at = t.at in
      let r = t.regs in
      ((λ k. rw k (attribute.quoted_start_sinks p at r b))
      & (λ k. rw k (attribute.quoted_sinks p at r b))
      & (λ k. rw k (attribute.before_sinks p at r b))
      & (λ k. rw k (attribute.expression_after_sinks p at r b))
      & (λ k. rw k (attribute.primary_sinks p at r b))
      & (λ k. rw k (attribute.primary_after_sinks p at r b))
      & (λ k. rw k (attribute.local_before_sinks p at r b))
      & (λ k. rw k (attribute.local_sinks p at r b))
      & (λ k. rw k (attribute.local_after_sinks p at r b))
      & (λ k. rw k (attribute.value_before_sinks p at r b))
      & (λ k. rw k (attribute.value_after_sinks p at r b))
      & tt)

  tag_sinks : is_return t.regs.back ≡ true → Each here t.state (tag_states t b)
  unfolding rank returns is_return within find when◌then◌else◌
  tag_sinks h =
      let at = t.at in
      let r = t.regs in
      ((λ k. rw k (tag.start_sinks p at r b (tag_token t.job.kind)))
      & (λ k. rw k (tag.start_after_sinks p at r b))
      & (λ k. rw k (name.name_before_sinks p at r b))
      & (λ k. rw k (name.closing_before_sinks p at r b))
      & (λ k. rw k (tag.tag_end_sinks p at r b (tag_token t.job.kind)))
      & (λ k. rw k (name.primary_sinks p at r b))
      & (λ k. rw k (name.primary_after_sinks p at r b))
      & (λ k. rw k (name.member_before_sinks p at r b))
      & (λ k. rw k (name.member_sinks p at r b))
      & (λ k. rw k (name.member_after_sinks p at r b))
      & (λ k. rw k (name.local_before_sinks p at r b))
      & (λ k. rw k (name.local_sinks p at r b))
      & (λ k. rw k (name.local_after_sinks p at r b))
      & (λ k. rw k (tag.self_closing_sinks p at r b))
      & (λ k. rw k (tag.whitespace_start_sinks p at r b h))
      & (λ k. rw k (tag.whitespace_inside_sinks p at r b h))
      & (λ k. rw k (tag.whitespace_eol_sinks p at r b))
      & (λ k. rw k (tag.retried_start_sinks p at r b h))
      & (λ k. rw k (tag.retried_inside_sinks p at r b))
      & tt)

  expression_sinks : is_return t.regs.back ≡ true → Each here t.state (expression_states page t b)
  unfolding rank is_return within find when◌then◌else◌
  expression_sinks h =
      let at = t.at in
      let r = t.regs in
      let token = expression_token t.job.kind t.regs.back in
      ((λ k. rw k (expression.start_sinks p at r b token))
      & (λ k. rw k (expression.before_sinks p at r b t.job.asks r.last token r.back h))
      & (λ k. rw k (expression.inside_sinks p at r b t.job.asks))
      & (λ k. rw k (expression.eol_sinks p at r b))
      & (λ k. rw k (expression.prefix_sinks p at r b r.prefix))
      & (λ k. rw k (expression.verdict_sinks p at r b t.heard (expression_fault page t.heard r.body at) token h))
      & tt)

  -- what a tokenizer in range decides, in a state of an expression or a tag
  pub decision_sinks : is_return t.regs.back ≡ true → of_tags t.state ≡ true → here (decision page t b)
  decision_sinks h l = of_every_tag_state here page t b l (ends refl (pays (tag_state_decides here page t b l (expression_sinks h) (tag_sinks h) attribute_sinks))) (expression_sinks h) (tag_sinks h) attribute_sinks
