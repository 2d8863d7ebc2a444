-- The states of a tag's attributes sink.
use Prim.Native.Nat.{ℕ, ◌+◌}
use mathlib.Core.Path.{◌≡◌, refl}
use mathlib.Core.Bool.{true, false}
use native.Mathlib.Omega.{arith}
use lib.Dec.{eqb}
use Rattle.base.specs.If.{when◌then◌else◌}
use Rattle.base.proofs.Choice.{case, or_no, or_right}
use Rattle.base.specs.Range.{within}
use Rattle.base.specs.Table.{find}
use Rattle.base.specs.Byte.{line_feed, slash, colon, equals_sign}
use Rattle.base.specs.State.{mdx_expression_start, mdx_jsx_attribute_before, mdx_jsx_attribute_expression_after, mdx_jsx_attribute_primary_name_after, mdx_jsx_attribute_local_name_after, mdx_jsx_attribute_value_quoted, mdx_jsx_attribute_value_quoted_start, mdx_jsx_attribute_value_expression_after, mdx_jsx_es_whitespace_start}
use Rattle.base.specs.declared.Effect.TheVariants.{Return}
use Rattle.mdx_jsx_attribute.specs.Attribute.{attribute_before, attribute_expression_after, attribute_primary_name, attribute_primary_name_after, attribute_local_name_before, attribute_local_name, attribute_local_name_after, attribute_value_before, attribute_value_expression_after, attribute_value_quoted_start, quoted_ends, attribute_value_quoted}
use Rattle.tokenizer.specs.Moved.{changed}
use Rattle.tokenizer.specs.Ranges.{is_return}
use Rattle.tokenizer.specs.declared.Regs.{Regs}
use Rattle.scan_theorems.proofs.There.{byte_there, start_there, quote_there}
use Rattle.scan_theorems.proofs.Price.{Prices}
use Rattle.scan_theorems.proofs.Rank.{rank, returns, run_ends, quoted_rank}
use Rattle.scan_theorems.proofs.Sinks.{Sinks, ends, eats, falls, pick, spaced}
use Rattle.scan_theorems.proofs.TagSinks.{name_sinks, tag_end_rank}

module _ (p : Prices) where
  primary_returns : returns p mdx_jsx_attribute_primary_name_after ≡ p.two + (p.none + (p.none + p.three))
  unfolding returns find when◌then◌else◌
  primary_returns = refl

  local_returns : returns p mdx_jsx_attribute_local_name_after ≡ run_ends p
  unfolding returns find when◌then◌else◌
  local_returns = refl

  before_returns : returns p mdx_jsx_attribute_before ≡ p.none + p.three
  unfolding returns find when◌then◌else◌
  before_returns = refl

module _ (p : Prices) (at : ℕ) (r : Regs) (b : ℕ) where
  attribute_rank : rank p mdx_jsx_attribute_before b r ≡ p.none + p.three
  unfolding rank returns is_return within find when◌then◌else◌
  attribute_rank = refl

  expression_rank : (back : ℕ) → rank p mdx_expression_start b (changed (Return back) at at r) ≡ p.three
  unfolding rank is_return within find when◌then◌else◌
  expression_rank back = refl

  quoted_rank_lem : quoted_ends b r.quote ≡ false → rank p mdx_jsx_attribute_value_quoted b r ≡ p.none
  unfolding rank is_return within find when◌then◌else◌
  quoted_rank_lem e = rw e

  quoted_start_rank : rank p mdx_jsx_attribute_value_quoted_start b r ≡ p.none + p.four
  unfolding rank returns is_return within find when◌then◌else◌
  quoted_start_rank = refl

  line_rank : (back : ℕ) → eqb b line_feed ≡ true → rank p mdx_jsx_es_whitespace_start b (changed (Return back) at at r) ≡ p.two
  unfolding rank is_return within find when◌then◌else◌
  line_rank back e = rw e

  pub before_sinks : Sinks p at r b (p.none + p.three) (attribute_before b)
  before_sinks =
      pick (λ e. eats refl refl (byte_there b slash e refl) refl (omega (arith, p)))
      (λ e. pick (λ f. falls refl refl (omega (arith, tag_end_rank p at r b)))
      (λ f. pick (λ g. falls refl refl (omega (arith, expression_rank mdx_jsx_attribute_expression_after)))
      (λ g. pick (λ h. eats refl refl (start_there b h) refl (omega arith)) (λ h. ends refl (omega arith)))))

  pub expression_after_sinks : Sinks p at r b (p.none + (p.none + (p.none + p.three))) attribute_expression_after
  expression_after_sinks = spaced mdx_jsx_attribute_before (omega (arith, before_returns p)) (omega (arith, before_returns p))

  pub primary_sinks : Sinks p at r b (p.one + (p.none + (p.two + (p.none + (p.none + p.three))))) (attribute_primary_name b)
  primary_sinks =
      name_sinks _ _ _ mdx_jsx_attribute_primary_name_after _ _ refl (omega (arith, primary_returns p)) (omega (arith, primary_returns p))

  pub primary_after_sinks : Sinks p at r b (p.two + (p.none + (p.none + p.three))) (attribute_primary_name_after b)
  primary_after_sinks =
      pick (λ e. eats refl refl (byte_there b colon e refl) refl (omega arith))
      (λ e. pick (λ f. eats refl refl (byte_there b equals_sign f refl) refl (omega arith))
      (λ f. pick (λ g. spaced mdx_jsx_attribute_before (omega (arith, before_returns p)) (omega (arith, before_returns p))) (λ g. ends refl (omega arith))))

  pub local_before_sinks : Sinks p at r b p.one (attribute_local_name_before b)
  local_before_sinks = pick (λ e. eats refl refl (start_there b e) refl (omega arith)) (λ e. ends refl (omega (arith, p)))

  pub local_sinks : Sinks p at r b (p.two + (p.none + run_ends p)) (attribute_local_name b)
  local_sinks =
      name_sinks _ _ _ mdx_jsx_attribute_local_name_after _ _ refl (omega (arith, local_returns p)) (omega (arith, local_returns p))

  pub local_after_sinks : Sinks p at r b (run_ends p) (attribute_local_name_after b)
  local_after_sinks =
      pick (λ e. eats refl refl (byte_there b equals_sign e refl) refl (omega (arith, p)))
      (λ e. pick (λ f. falls refl refl (omega (arith, attribute_rank))) (λ f. ends refl (omega arith)))

  pub value_before_sinks : Sinks p at r b (p.none + p.three) (attribute_value_before b)
  value_before_sinks =
      pick (λ e. eats refl refl (quote_there b e) refl (omega arith))
      (λ e. pick (λ f. falls refl refl (omega (arith, expression_rank mdx_jsx_attribute_value_expression_after))) (λ f. pick (λ g. ends refl (omega arith)) (λ g. ends refl (omega arith))))

  pub value_after_sinks : Sinks p at r b (p.one + (p.none + (p.none + p.three))) attribute_value_expression_after
  value_after_sinks = spaced mdx_jsx_attribute_before (omega (arith, before_returns p)) (omega (arith, before_returns p))

  pub quoted_start_sinks : Sinks p at r b (p.none + p.four) (attribute_value_quoted_start b r.quote)
  quoted_start_sinks =
      pick (λ e. ends refl (omega arith))
      (λ e. pick (λ f. eats refl refl e refl (omega arith))
      (λ f. pick (λ g. falls refl refl (omega (arith, p, line_rank mdx_jsx_attribute_value_quoted_start g))) (λ g. falls refl refl (omega (arith, p, quoted_rank_lem (or_no _ _ f (or_no _ _ g e)))))))

  pub quoted_sinks : Sinks p at r b (quoted_rank p b r.quote) (attribute_value_quoted b r.quote)
  unfolding when◌then◌else◌
  quoted_sinks =
      case _ (quoted_ends b r.quote) (λ e. rw e (falls refl refl (omega (arith, quoted_start_rank))))
      (λ e. rw e (eats refl refl (or_right (eqb b line_feed) _ (or_right (eqb b r.quote) _ e)) refl (omega arith)))
