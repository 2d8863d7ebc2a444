-- The states of a tag that belong neither to its name nor to its attributes sink: its ends and its white space; and what the five
-- states inside a name share.
use Prim.Native.Nat.{ℕ, ◌+◌, ◌≤◌}
use mathlib.Core.Path.{◌≡◌, refl}
use mathlib.Core.Bool.{Bool, true, false}
use native.Mathlib.Omega.{arith}
use lib.Dec.{eqb}
use Rattle.base.specs.If.{when◌then◌else◌}
use Rattle.base.proofs.Choice.{case}
use Rattle.base.specs.Range.{within}
use Rattle.base.specs.Table.{find}
use Rattle.base.specs.Byte.{line_feed, less_than, end_of_page}
use Rattle.base.specs.State.{mdx_jsx_name_before, mdx_jsx_tag_end, mdx_jsx_es_whitespace_start, mdx_jsx_es_whitespace_inside, mdx_jsx_es_whitespace_inside_retried}
use Rattle.base.specs.declared.Marks.{Marks}
use Rattle.char_class.specs.Class.{is_whitespace}
use Rattle.mdx_jsx.specs.Jsx.{
  whitespace_or_end,
  in_a_name,
  start,
  start_after,
  self_closing,
  tag_end,
  es_whitespace_start,
  es_whitespace_inside,
  es_whitespace_eol_after,
  es_whitespace_start_retried,
  es_whitespace_inside_retried,
}
use Rattle.tokenizer.specs.Ranges.{is_return}
use Rattle.tokenizer.specs.declared.Regs.{Regs}
use Rattle.scan_theorems.proofs.There.{byte_there, cont_there}
use Rattle.scan_theorems.proofs.Price.{Prices, price}
use Rattle.scan_theorems.proofs.Rank.{awaits, rank, returns, start_rank, whitespace_rank, retried_rank, rank_return}
use Rattle.scan_theorems.proofs.Sinks.{Sinks, ends, eats, falls, pick, spaced}

name_before_returns : (p : Prices) → returns p mdx_jsx_name_before ≡ p.none + p.three
unfolding returns find when◌then◌else◌
name_before_returns p = refl

-- the five states inside a name, in which the byte goes on with the name or white space is looked for
pub name_sinks : {p : Prices} {at : ℕ} {r : Regs} {b k : ℕ} (over : Bool) (same : ℕ) (marks : Marks) (after site note : ℕ)
    → awaits same ≡ false → p.none + p.three ≤ returns p after → price p marks + (p.none + returns p after) ≤ k → Sinks p at r b k (in_a_name b over same marks after site note)
name_sinks {p} {b} over same marks after site note a h g =
    pick (λ e. spaced after h g) (λ e. pick (λ f. eats refl refl (cont_there b f) a (omega arith)) (λ f. ends refl (omega arith)))

module _ (p : Prices) (at : ℕ) (r : Regs) (b : ℕ) where
  pub tag_end_rank : rank p mdx_jsx_tag_end b r ≡ p.three
  unfolding rank is_return within find when◌then◌else◌
  tag_end_rank = refl

  pub start_sinks : (token : ℕ) → Sinks p at r b p.three (start b token)
  start_sinks token = pick (λ e. eats refl refl (byte_there b less_than e refl) refl (omega arith)) (λ e. ends refl (omega (arith, p)))

  pub start_after_sinks : Sinks p at r b (p.none + (p.none + (p.none + p.three))) (start_after b)
  start_after_sinks =
      pick (λ e. ends refl (omega arith))
      (λ e. pick (λ f. ends refl (omega arith)) (λ f. spaced mdx_jsx_name_before (omega (arith, name_before_returns p)) (omega (arith, name_before_returns p))))

  pub self_closing_sinks : Sinks p at r b (p.none + p.three) (self_closing b)
  self_closing_sinks =
      pick (λ e. falls refl refl (omega (arith, tag_end_rank))) (λ e. pick (λ f. ends refl (omega arith)) (λ f. ends refl (omega arith)))

  pub tag_end_sinks : (token : ℕ) → Sinks p at r b p.three (tag_end b token)
  tag_end_sinks token = pick (λ e. ends refl (omega arith)) (λ e. ends refl (omega (arith, p)))

  retried_rank_lem : rank p mdx_jsx_es_whitespace_inside_retried b r ≡ p.none
  unfolding rank is_return within find when◌then◌else◌
  retried_rank_lem = refl

  -- white space returns to where it was sent from
  module _ (h : is_return r.back ≡ true) where
    inside_rank_lem : eqb b line_feed ≡ false → whitespace_or_end b ≡ true → rank p mdx_jsx_es_whitespace_inside b r ≡ p.none
    unfolding rank is_return within find when◌then◌else◌
    inside_rank_lem e f = rw (e, f)

    start_rank_lem : eqb b line_feed ≡ true → rank p mdx_jsx_es_whitespace_start b r ≡ p.two
    unfolding rank is_return within find when◌then◌else◌
    start_rank_lem e = rw e

    pub whitespace_start_sinks : Sinks p at r b (start_rank p b r.back) (es_whitespace_start b r.back)
    unfolding when◌then◌else◌
    whitespace_start_sinks =
        case _ (eqb b line_feed) (λ e. rw e (eats refl refl (byte_there b line_feed e refl) refl (omega arith)))
        (λ e. rw e (case _ (whitespace_or_end b) (λ f. rw f (falls refl refl (omega (arith, inside_rank_lem e f)))) (λ f. rw f (falls refl refl (omega (arith, rank_return p r.back b r h))))))

    pub whitespace_inside_sinks : Sinks p at r b (whitespace_rank p b r.back) (es_whitespace_inside b r.back)
    unfolding when◌then◌else◌
    whitespace_inside_sinks =
        case _ (eqb b line_feed) (λ e. rw e (falls refl refl (omega (arith, start_rank_lem e))))
        (λ e. rw e (case _ (eqb b end_of_page) (λ f. rw f (ends refl (omega arith)))
        (λ f. rw f (case _ (is_whitespace b) (λ g. rw g (eats refl refl f refl (omega arith))) (λ g. rw g (falls refl refl (omega (arith, rank_return p r.back b r h))))))))

  pub whitespace_eol_sinks : Sinks p at r b (p.none + start_rank p b r.back) es_whitespace_eol_after
  unfolding rank is_return within find when◌then◌else◌
  whitespace_eol_sinks = falls refl refl (omega arith)

  pub retried_start_sinks : is_return r.back ≡ true → Sinks p at r b (retried_rank p b r.back) (es_whitespace_start_retried b r.back)
  unfolding when◌then◌else◌
  retried_start_sinks h =
      case _ (whitespace_or_end b) (λ f. rw f (falls refl refl (omega (arith, retried_rank_lem)))) (λ f. rw f (falls refl refl (omega (arith, rank_return p r.back b r h))))

  pub retried_inside_sinks : Sinks p at r b p.none es_whitespace_inside_retried
  retried_inside_sinks = ends refl (omega arith)
