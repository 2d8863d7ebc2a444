-- Every state of an expression sinks.
use Prim.Native.Nat.{ℕ, ◌+◌, ◌≤◌}
use mathlib.Core.Path.{◌≡◌, refl}
use mathlib.Core.Bool.{Bool, true, false}
use native.Mathlib.Omega.{arith}
use lib.Dec.{ltb, eqb}
use borrow.Author.Tests.{eqb-true, ne_eqb}
use Rattle.base.specs.If.{when◌then◌else◌}
use Rattle.base.proofs.Choice.{if_is, case, or_no, or_left, or_cases, both}
use Rattle.base.specs.Range.{within}
use Rattle.base.proofs.Ranges.{within_is}
use Rattle.base.specs.Table.{find}
use Rattle.base.specs.Byte.{space, left_brace, right_brace, end_of_page}
use Rattle.base.specs.State.{asking, mdx_expression_before, mdx_expression_inside, mdx_expression_prefix, mdx_expression_verdict, mdx_jsx_attribute_value_quoted_start, mdx_jsx_attribute_value_expression_after}
use Rattle.base.specs.declared.Effect.TheVariants.{PrefixBegins, PrefixEnds, PrefixInTab, Last}
use Rattle.base.specs.declared.InTab.{InTab}
use Rattle.base.specs.declared.Verdict.{Verdict}
use Rattle.base.specs.declared.Verdict.TheVariants.{Fine, Unfinished, Wrong}
use Rattle.mdx_expression.specs.Expression.{stops, start, before, inside, eol_after, prefix_size, prefix_in_tab, taken, prefix, verdict}
use Rattle.tokenizer.specs.Moved.{changed}
use Rattle.tokenizer.specs.Ranges.{is_return}
use Rattle.tokenizer.specs.declared.Regs.{Regs}
use Rattle.scan_theorems.proofs.There.{byte_there}
use Rattle.scan_theorems.proofs.Price.{Prices}
use Rattle.scan_theorems.proofs.Rank.{awaits, rank, run_ends, prefix_rank, inside_rank, verdict_rank, rank_return}
use Rattle.scan_theorems.proofs.Sinks.{Sinks, ends, eats, falls, stuck, pick}

-- what a verdict's `}` returns to asks for none
returns_on : (name : ℕ) → is_return name ≡ true → awaits name ≡ false
unfolding is_return
returns_on name h =
    or_cases _ (eqb name 0) _ h (λ e. rw (eqb-true name 0 e))
    (λ w. let v = within_is mdx_jsx_attribute_value_quoted_start mdx_jsx_attribute_value_expression_after name w in
    or_no _ _ (ne_eqb name asking (λ e. absurd (omega (arith, v.0, e)))) (ne_eqb name mdx_expression_verdict (λ e. absurd (omega (arith, v.0, e)))))

module _ (p : Prices) (at : ℕ) (r : Regs) (b : ℕ) where
  -- the ranks of the states that are gone to
  inside_rank_lem : stops b r.depth ≡ false → rank p mdx_expression_inside b r ≡ p.none
  unfolding rank is_return within find when◌then◌else◌
  inside_rank_lem e = rw e

  asking_rank : eqb b end_of_page ≡ false → rank p asking b r ≡ p.three
  unfolding rank is_return within find when◌then◌else◌
  asking_rank e = rw e

  before_rank : rank p mdx_expression_before b r ≡ p.none + p.three
  unfolding rank is_return within find when◌then◌else◌
  before_rank = refl

  prefix_rank_lem : rank p mdx_expression_prefix b (changed PrefixBegins at at r) ≤ p.none + run_ends p
  unfolding rank is_return within find when◌then◌else◌
  prefix_rank_lem = case _ (prefix_in_tab b r.prefix) (λ e. rw e (omega arith)) (λ e. rw e (omega arith))

  -- two columns are passed then, and no more are the prefix's
  in_tab_rank : (tab : InTab) → rank p mdx_expression_prefix b (changed (PrefixInTab tab) at at r) ≡ run_ends p
  unfolding rank is_return within find when◌then◌else◌
  in_tab_rank tab = refl

  ended_rank : rank p mdx_expression_before b (changed PrefixEnds at at r) ≡ p.none + p.three
  unfolding rank is_return within find when◌then◌else◌
  ended_rank = refl

  inside_end : (n : ℕ) → rank p mdx_expression_inside b (changed (Last n) at at r) ≤ run_ends p
  unfolding rank is_return within find when◌then◌else◌
  inside_end n = if_is ℕ (λ (k : ℕ). k ≤ run_ends p) (stops b r.depth) (run_ends p) p.none (λ e. omega arith) (λ e. omega (arith, p))

  pub start_sinks : (token : ℕ) → Sinks p at r b p.three (start b token)
  start_sinks token = pick (λ e. eats refl refl (byte_there b left_brace e refl) refl (omega arith)) (λ e. ends refl (omega (arith, p)))

  pub before_sinks : (asks : Bool) (last token back : ℕ) → is_return back ≡ true → Sinks p at r b (p.none + p.three) (before b r.depth asks last token back)
  before_sinks asks last token back h =
      pick (λ e. pick (λ f. ends refl (omega arith)) (λ f. ends refl (omega arith)))
      (λ e. pick (λ f. eats refl refl e refl (omega (arith, p)))
      (λ f. pick (λ g. pick (λ h. falls refl refl (omega (arith, asking_rank e))) (λ i. eats refl refl e (returns_on back h) (omega arith)))
      (λ g. falls refl refl (omega (arith, p, inside_rank_lem (or_no _ _ e (or_no _ _ f g)))))))

  pub inside_sinks : (asks : Bool) → Sinks p at r b (inside_rank p b r.depth) (inside b r.depth asks)
  unfolding when◌then◌else◌
  inside_sinks asks =
      case _ (stops b r.depth) (λ e. rw e (falls refl refl (omega (arith, before_rank))))
      (λ e. let n = or_left (eqb b end_of_page) _ e in
      rw e (case _ (eqb b left_brace) (λ f. rw f (case _ asks (λ g. rw g (eats refl refl n refl (omega arith))) (λ g. rw g (eats refl refl n refl (omega arith)))))
      (λ f. rw f (case _ (eqb b right_brace) (λ g. rw g (eats refl refl n refl (omega arith))) (λ g. rw g (eats refl refl n refl (omega arith)))))))

  pub eol_sinks : Sinks p at r b (p.one + (p.none + run_ends p)) (eol_after b)
  eol_sinks = pick (λ e. falls refl refl (omega (arith, prefix_rank_lem))) (λ e. falls refl refl (omega (arith, p, before_rank)))

  pub prefix_sinks : (size : ℕ) → Sinks p at r b (prefix_rank p b size) (prefix b size)
  unfolding when◌then◌else◌
  prefix_sinks size =
      pick (λ e. eats refl refl (byte_there b space (both (ltb size prefix_size) (eqb b space) e).1 refl) refl (if_is ℕ (λ (k : ℕ). p.none ≤ k) (prefix_in_tab b size) _ _ (λ f. omega arith) (λ f. omega (arith, p))))
      (λ e. case _ (prefix_in_tab b size) (λ f. rw f (falls refl refl (omega (arith, in_tab_rank (taken size))))) (λ f. rw f (falls refl refl (omega (arith, ended_rank)))))

  pub verdict_sinks : (v : Verdict) (place token : ℕ) → is_return r.back ≡ true → Sinks p at r b (verdict_rank p b r.back) (verdict v place token r.back)
  unfolding when◌then◌else◌
  verdict_sinks Fine place token h =
      case _ (eqb b end_of_page) (λ e. rw e (stuck refl (returns_on r.back h) (omega (arith, rank_return p r.back b r h)))) (λ e. rw e (eats refl refl e (returns_on r.back h) (omega arith)))
  verdict_sinks (Unfinished n) place token h = case _ (eqb b end_of_page) (λ e. rw e (stuck refl refl (omega (arith, inside_end n)))) (λ e. rw e (eats refl refl e refl (omega (arith, p))))
  verdict_sinks (Wrong n offset) place token h = ends refl (if_is ℕ (λ (k : ℕ). p.none ≤ k) (eqb b end_of_page) _ _ (λ e. omega (arith, p)) (λ e. omega (arith, p)))
