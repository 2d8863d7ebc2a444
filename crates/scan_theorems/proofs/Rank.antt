-- The rank of a state: the most that an expression or a tag may still cost at one byte, the step of this state included. A step that eats
-- nothing pays its price out of it, and it is at most what is paid for one byte.
use Prim.Native.Nat.{ℕ, ◌+◌, ◌≤◌}
use mathlib.Core.Path.{◌≡◌, refl}
use mathlib.Core.Bool.{Bool, true, false, ◌||◌}
use mathlib.Core.List.{List, [], ◌∷◌}
use native.Mathlib.Omega.{arith}
use lib.Dec.{eqb}
use Rattle.base.proofs.Tables.{◌&◌, found}
use Rattle.base.specs.If.{when◌then◌else◌}
use Rattle.base.proofs.Choice.{if_is}
use Rattle.base.specs.Table.{find}
use Rattle.base.specs.Byte.{line_feed, end_of_page}
use Rattle.base.specs.State as state
use Rattle.mdx_expression.specs.Expression.{stops, prefix_in_tab}
use Rattle.mdx_jsx.specs.Jsx.{whitespace_or_end}
use Rattle.mdx_jsx_attribute.specs.Attribute.{quoted_ends}
use Rattle.tokenizer.specs.Ranges.{is_return}
use Rattle.tokenizer.specs.declared.Regs.{Regs}
use Rattle.scan_theorems.proofs.Tests.{clash}
use Rattle.scan_theorems.proofs.Price.{Prices}

-- the states at a `}` that a verdict is asked for, or applied to
abbrev pub awaits : ℕ → Bool
awaits name = eqb name state.asking || eqb name state.mdx_expression_verdict

module _ (p : Prices) where
  -- the states that white space or an expression returns to: each is a chain of steps, written from its first to its last
  unfoldable pub returns : ℕ → ℕ
  returns name =
      find name
      ((state.mdx_jsx_attribute_value_quoted_start, p.none + p.four)
      ∷ (state.mdx_jsx_name_before, p.none + p.three)
      ∷ (state.mdx_jsx_closing_tag_name_before, p.none + p.three)
      ∷ (state.mdx_jsx_primary_name_after, p.one + (p.none + p.three))
      ∷ (state.mdx_jsx_member_name_before, p.one)
      ∷ (state.mdx_jsx_member_name_after, p.one + (p.none + p.three))
      ∷ (state.mdx_jsx_local_name_before, p.one)
      ∷ (state.mdx_jsx_local_name_after, p.one + (p.none + p.three))
      ∷ (state.mdx_jsx_attribute_before, p.none + p.three)
      ∷ (state.mdx_jsx_self_closing, p.none + p.three)
      ∷ (state.mdx_jsx_attribute_expression_after, p.none + (p.none + (p.none + p.three)))
      ∷ (state.mdx_jsx_attribute_primary_name_after, p.two + (p.none + (p.none + p.three)))
      ∷ (state.mdx_jsx_attribute_local_name_before, p.one)
      ∷ (state.mdx_jsx_attribute_local_name_after, p.one + (p.none + p.three))
      ∷ (state.mdx_jsx_attribute_value_before, p.none + p.three)
      ∷ (state.mdx_jsx_attribute_value_expression_after, p.one + (p.none + (p.none + p.three)))
      ∷ [])
      0

  -- the end of a run of data, of a line prefix: one event, then the state between runs, and a `}` that closes
  abbrev pub run_ends : ℕ
  run_ends = p.one + (p.none + p.three)

  -- a line prefix that ends inside a tab takes its columns first
  abbrev pub prefix_rank : ℕ → ℕ → ℕ
  prefix_rank b size = when prefix_in_tab b size then p.none + run_ends else run_ends

  -- a run of data, or of a quoted value, is left where it stops
  abbrev pub inside_rank : ℕ → ℕ → ℕ
  inside_rank b depth = when stops b depth then run_ends else p.none

  abbrev pub quoted_rank : ℕ → ℕ → ℕ
  quoted_rank b quote = when quoted_ends b quote then p.one + (p.none + p.four) else p.none

  -- a verdict is asked for at a `}`, which it eats; only a state that no scan reaches asks at the page's end
  abbrev pub verdict_rank : ℕ → ℕ → ℕ
  verdict_rank b back = when eqb b end_of_page then p.three + returns back + (p.one + run_ends) else p.three

  -- white space, which eats what is white space and then returns to `back`
  abbrev pub start_rank : ℕ → ℕ → ℕ
  start_rank b back = when eqb b line_feed then p.two else when whitespace_or_end b then p.one + p.none else p.none + returns back

  abbrev pub whitespace_rank : ℕ → ℕ → ℕ
  whitespace_rank b back = when eqb b line_feed then p.one + p.two else when whitespace_or_end b then p.none else p.one + returns back

  abbrev pub retried_rank : ℕ → ℕ → ℕ
  retried_rank b back = when whitespace_or_end b then p.one + p.none else p.none + returns back

  -- every other state, at the byte b and with the registers r
  abbrev pub others : ℕ → Regs → List (ℕ × ℕ)
  others b r =
      (state.mdx_expression_start, p.three)
      ∷ (state.mdx_expression_before, p.none + p.three)
      ∷ (state.mdx_expression_inside, inside_rank b r.depth)
      ∷ (state.mdx_expression_eol_after, p.one + (p.none + run_ends))
      ∷ (state.mdx_expression_prefix, prefix_rank b r.prefix)
      ∷ (state.mdx_expression_verdict, verdict_rank b r.back)
      ∷ (state.asking, verdict_rank b r.back)
      ∷ (state.mdx_jsx_start, p.three)
      ∷ (state.mdx_jsx_attribute_value_quoted, quoted_rank b r.quote)
      ∷ (state.mdx_jsx_start_after, p.none + (p.none + (p.none + p.three)))
      ∷ (state.mdx_jsx_tag_end, p.three)
      ∷ (state.mdx_jsx_primary_name, p.one + (p.none + run_ends))
      ∷ (state.mdx_jsx_member_name, p.one + (p.none + run_ends))
      ∷ (state.mdx_jsx_local_name, p.one + (p.none + run_ends))
      ∷ (state.mdx_jsx_attribute_primary_name, p.one + (p.none + (p.two + (p.none + (p.none + p.three)))))
      ∷ (state.mdx_jsx_attribute_local_name, p.two + (p.none + run_ends))
      ∷ (state.mdx_jsx_es_whitespace_start, start_rank b r.back)
      ∷ (state.mdx_jsx_es_whitespace_inside, whitespace_rank b r.back)
      ∷ (state.mdx_jsx_es_whitespace_eol_after, p.none + start_rank b r.back)
      ∷ (state.mdx_jsx_es_whitespace_start_retried, retried_rank b r.back)
      ∷ (state.mdx_jsx_es_whitespace_inside_retried, p.none)
      ∷ []

  unfoldable pub rank : ℕ → ℕ → Regs → ℕ
  rank name b r = when is_return name then returns name else find name (others b r) 0

  pub rank_return : (name b : ℕ) (r : Regs) → is_return name ≡ true → rank name b r ≡ returns name
  unfolding rank when◌then◌else◌
  rank_return name b r h = rw h

  -- ---- none is more than what is paid for one byte

  pub returns_small : (name : ℕ) → p.one + (p.none + returns name) ≤ p.most
  unfolding returns
  returns_small name =
      let row : (k : ℕ) → Type 0 = λ k. p.one + (p.none + k) ≤ p.most in
      found row name _ 0
      ((λ e. omega (arith, p))
      & (λ e. omega (arith, p))
      & (λ e. omega (arith, p))
      & (λ e. omega (arith, p))
      & (λ e. omega (arith, p))
      & (λ e. omega (arith, p))
      & (λ e. omega (arith, p))
      & (λ e. omega (arith, p))
      & (λ e. omega (arith, p))
      & (λ e. omega (arith, p))
      & (λ e. omega (arith, p))
      & (λ e. omega (arith, p))
      & (λ e. omega (arith, p))
      & (λ e. omega (arith, p))
      & (λ e. omega (arith, p))
      & (λ e. omega (arith, p))
      & tt)
      (omega (arith, p))

  -- a choice of two small numbers is small
  chosen : (t : Bool) (x y : ℕ) → x ≤ p.most → y ≤ p.most → (when t then x else y) ≤ p.most
  chosen t x y f g = if_is ℕ (λ (k : ℕ). k ≤ p.most) t x y (λ e. f) (λ e. g)

  pub rank_small : (name b : ℕ) (r : Regs) → awaits name ≡ false → rank name b r ≤ p.most
  unfolding rank
  rank_small name b r a =
      let back = returns_small r.back in
      let small : (k : ℕ) → Type 0 = λ k. k ≤ p.most in
      chosen _ _ _ (omega (arith, returns_small name))
      (found small name (others b r) 0
      ((λ e. omega (arith, p))
      & (λ e. omega (arith, p))
      & (λ e. chosen _ _ _ (omega (arith, p)) (omega (arith, p)))
      & (λ e. omega (arith, p))
      & (λ e. chosen _ _ _ (omega (arith, p)) (omega (arith, p)))
      & (λ e. clash true refl (rw e at a))
      & (λ e. clash true refl (rw e at a))
      & (λ e. omega (arith, p))
      & (λ e. chosen _ _ _ (omega (arith, p)) (omega (arith, p)))
      & (λ e. omega (arith, p))
      & (λ e. omega (arith, p))
      & (λ e. omega (arith, p))
      & (λ e. omega (arith, p))
      & (λ e. omega (arith, p))
      & (λ e. omega (arith, p))
      & (λ e. omega (arith, p))
      & (λ e. chosen _ _ _ (omega (arith, p)) (chosen _ _ _ (omega (arith, p)) (omega (arith, p))))
      & (λ e. chosen _ _ _ (omega (arith, p)) (chosen _ _ _ (omega (arith, p)) (omega (arith, p))))
      & (λ e. if_is ℕ (λ (k : ℕ). p.none + k ≤ p.most) _ _ _ (λ f. omega (arith, p)) (λ f. if_is ℕ (λ (k : ℕ). p.none + k ≤ p.most) _ _ _ (λ g. omega (arith, p)) (λ g. omega (arith, p))))
      & (λ e. chosen _ _ _ (omega (arith, p)) (omega (arith, p)))
      & (λ e. omega (arith, p))
      & tt)
      (omega (arith, p)))
