-- The states of a tag's name sink.
use Prim.Native.Nat.{ℕ, ◌+◌}
use mathlib.Core.Path.{◌≡◌, refl}
use native.Mathlib.Omega.{arith}
use Rattle.base.specs.If.{when◌then◌else◌}
use Rattle.base.specs.Range.{within}
use Rattle.base.specs.Table.{find}
use Rattle.base.specs.Byte.{dot, slash, colon}
use Rattle.base.specs.State.{mdx_jsx_primary_name_after, mdx_jsx_member_name_after, mdx_jsx_local_name_after, mdx_jsx_attribute_before}
use Rattle.mdx_jsx_name.specs.Name.{name_before, closing_tag_name_before, primary_name, primary_name_after, member_name_before, member_name, member_name_after, local_name_before, local_name, local_name_after}
use Rattle.tokenizer.specs.Ranges.{is_return}
use Rattle.tokenizer.specs.declared.Regs.{Regs}
use Rattle.scan_theorems.proofs.There.{byte_there, start_there}
use Rattle.scan_theorems.proofs.Price.{Prices}
use Rattle.scan_theorems.proofs.Rank.{rank, returns, run_ends}
use Rattle.scan_theorems.proofs.Sinks.{Sinks, ends, eats, falls, pick}
use Rattle.scan_theorems.proofs.TagSinks.{name_sinks, tag_end_rank}

module _ (p : Prices) where
  -- the three states after a name
  primary_returns : returns p mdx_jsx_primary_name_after ≡ run_ends p
  unfolding returns find when◌then◌else◌
  primary_returns = refl

  member_returns : returns p mdx_jsx_member_name_after ≡ run_ends p
  unfolding returns find when◌then◌else◌
  member_returns = refl

  local_returns : returns p mdx_jsx_local_name_after ≡ run_ends p
  unfolding returns find when◌then◌else◌
  local_returns = refl

module _ (p : Prices) (at : ℕ) (r : Regs) (b : ℕ) where
  attribute_rank : rank p mdx_jsx_attribute_before b r ≡ p.none + p.three
  unfolding rank returns is_return within find when◌then◌else◌
  attribute_rank = refl

  pub name_before_sinks : Sinks p at r b (p.none + p.three) (name_before b)
  name_before_sinks =
      pick (λ e. eats refl refl (byte_there b slash e refl) refl (omega (arith, p)))
      (λ e. pick (λ f. falls refl refl (omega (arith, tag_end_rank p at r b)))
      (λ f. pick (λ g. eats refl refl (start_there b g) refl (omega (arith, p))) (λ g. pick (λ h. ends refl (omega arith)) (λ h. ends refl (omega arith)))))

  pub closing_before_sinks : Sinks p at r b (p.none + p.three) (closing_tag_name_before b)
  closing_before_sinks =
      pick (λ e. falls refl refl (omega (arith, tag_end_rank p at r b)))
      (λ e. pick (λ f. eats refl refl (start_there b f) refl (omega (arith, p))) (λ f. pick (λ g. ends refl (omega arith)) (λ g. ends refl (omega arith))))

  pub primary_sinks : Sinks p at r b (p.one + (p.none + run_ends p)) (primary_name b)
  primary_sinks = name_sinks _ _ _ mdx_jsx_primary_name_after _ _ refl (omega (arith, primary_returns p)) (omega (arith, primary_returns p))

  pub primary_after_sinks : Sinks p at r b (run_ends p) (primary_name_after b)
  primary_after_sinks =
      pick (λ e. eats refl refl (byte_there b dot e refl) refl (omega (arith, p)))
      (λ e. pick (λ f. eats refl refl (byte_there b colon f refl) refl (omega (arith, p)))
      (λ f. pick (λ g. falls refl refl (omega (arith, attribute_rank))) (λ g. ends refl (omega arith))))

  pub member_before_sinks : Sinks p at r b p.one (member_name_before b)
  member_before_sinks = pick (λ e. eats refl refl (start_there b e) refl (omega arith)) (λ e. ends refl (omega (arith, p)))

  pub member_sinks : Sinks p at r b (p.one + (p.none + run_ends p)) (member_name b)
  member_sinks = name_sinks _ _ _ mdx_jsx_member_name_after _ _ refl (omega (arith, member_returns p)) (omega (arith, member_returns p))

  pub member_after_sinks : Sinks p at r b (run_ends p) (member_name_after b)
  member_after_sinks =
      pick (λ e. eats refl refl (byte_there b dot e refl) refl (omega (arith, p)))
      (λ e. pick (λ f. falls refl refl (omega (arith, attribute_rank))) (λ f. ends refl (omega arith)))

  pub local_before_sinks : Sinks p at r b p.one (local_name_before b)
  local_before_sinks =
      pick (λ e. eats refl refl (start_there b e) refl (omega arith)) (λ e. pick (λ f. ends refl (omega (arith, p))) (λ f. ends refl (omega (arith, p))))

  pub local_sinks : Sinks p at r b (p.one + (p.none + run_ends p)) (local_name b)
  local_sinks = name_sinks _ _ _ mdx_jsx_local_name_after _ _ refl (omega (arith, local_returns p)) (omega (arith, local_returns p))

  pub local_after_sinks : Sinks p at r b (run_ends p) (local_name_after b)
  local_after_sinks = pick (λ e. falls refl refl (omega (arith, attribute_rank))) (λ e. ends refl (omega arith))
