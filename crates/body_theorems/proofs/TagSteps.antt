-- A step of a tag leads into no expression but by its start, and leaves the line prefix and the count of braces alone; and so every step of an expression or a tag keeps
-- what holds of it.
use Prim.Native.Nat.{ℕ}
use native.Mathlib.Omega.{arith}
use mathlib.Core.Path.{◌≡◌, refl, subst, ◌∙◌}
use mathlib.Core.Bool.{Bool, true}
use mathlib.Core.List.{List}
use lib.Dec.{leb, eqb}
use lib.ListN.{length}
use borrow.Author.Tests.{eqb-true}
use Rattle.base.proofs.Tables.{◌&◌, Each}
use Rattle.base.specs.If.{when◌then◌else◌}
use Rattle.base.proofs.Choice.{case}
use Rattle.base.specs.Range.{within}
use Rattle.base.proofs.Ranges.{within_is}
use Rattle.base.specs.Page.{byte_at}
use Rattle.base.specs.State as state
use Rattle.base.specs.declared.InTab.{InTab}
use Rattle.base.specs.declared.Move.{Move}
use Rattle.tokenizer.specs.Decision.{expression_token, expression_fault, expression_states, tag_states, attribute_states, decision}
use Rattle.tokenizer.specs.Ranges.{is_return}
use Rattle.tokenizer.specs.declared.Regs.{Regs}
use Rattle.tokenizer.specs.declared.Tokenizer.{Tokenizer}
use Rattle.scan_theorems.proofs.EveryState.{of_tags, of_every_tag_state}
use Rattle.body_theorems.specs.Events.{Runs}
use Rattle.body_theorems.proofs.After.{After, pick}
use Rattle.body_theorems.proofs.Kept.{Rest, Kept, aside, high_aside, in_tag, to_aside, to_end}
use Rattle.body_theorems.proofs.ExpressionSteps.{start_kept, before_kept, inside_kept, eol_kept, prefix_kept, verdict_kept}

either : (page : List ℕ) (K : ℕ → ℕ → InTab → Regs → Runs → Type 0) (n at : ℕ) (v : InTab) (g : Regs) (r : Runs) (t : Bool) (x y : Move) → After page K n at v g r x → After page K n at v g r y → After page K n at v g r (when t then x else y)
either page K n at v g r t x y p q = pick (λ h. p) (λ h. q)

ruleset asides = (either, to_aside, refl)

return_aside : (name : ℕ) → is_return name ≡ true → aside name ≡ true
unfolding is_return within
return_aside name h =
    case _ (eqb name 0) (λ e. rw (eqb-true name 0 e))
    (λ e. high_aside name (omega (arith, (within_is state.mdx_jsx_attribute_value_quoted_start state.mdx_jsx_attribute_value_expression_after name (rw e at h)).0)))

module _ (page : List ℕ) (t : Tokenizer) (v : InTab) (r : Runs) (size : length page ≡ t.job.length) (k : Kept page t.job.asks t.state t.at v t.regs r) (h : is_return t.regs.back ≡ true) where
  abbrev b : ℕ
  b = byte_at page t.at

  abbrev Next : Move → Type 0
  Next m = After page (Kept page t.job.asks) t.job.length t.at v t.regs r m

  -- what holds in the state that it is
  now : (name : ℕ) → t.state ≡ name → Kept page t.job.asks name t.at v t.regs r
  now name e = subst (λ (x : ℕ). Kept page t.job.asks x t.at v t.regs r) e k

  expression_rows : Each Next t.state (expression_states page t b)
  expression_rows =
      let n = t.job.length in
      let asks = t.job.asks in
      let at = t.at in
      let g = t.regs in
      let token = expression_token t.job.kind g.back in
      let back = return_aside g.back h in
      ((λ e. start_kept page asks n at v g r size token (now _ e))
      & (λ e. before_kept page asks n at v g r size g.last token g.back back (now _ e))
      & (λ e. inside_kept page asks n at v g r size (now _ e))
      & (λ e. eol_kept page asks n at v g r size (now _ e))
      & (λ e. prefix_kept page asks n at v g r size (now _ e))
      & (λ e. verdict_kept page asks n at v g r size t.heard (expression_fault page t.heard g.body at) token g.back back (now _ e))
      & tt)

  -- no state of a tag has a line prefix or an open brace
  at_rest : (name : ℕ) → t.state ≡ name → leb state.mdx_jsx_start name ≡ true → t.job.asks ≡ true → Rest t.regs
  at_rest name e l = in_tag page t.job.asks name t.at v t.regs r l (now name e)

  -- nor the next, whatever else a step of it changes
  same_rest : (g : Regs) → g.prefix ≡ t.regs.prefix → g.depth ≡ t.regs.depth → (t.job.asks ≡ true → Rest t.regs) → t.job.asks ≡ true → Rest g
  same_rest g p d k a = record { prefix = p ∙ (k a).prefix; depth = d ∙ (k a).depth }

  abbrev asks : Bool
  asks = t.job.asks

  attribute_rows : Each Next t.state (attribute_states t b)
  unfolding within
  attribute_rows =
      ((λ e. search (asides, same_rest, at_rest, e) depth 12)
      & (λ e. search (asides, same_rest, at_rest, e) depth 12)
      & (λ e. search (asides, same_rest, at_rest, e) depth 12)
      & (λ e. search (asides, same_rest, at_rest, e) depth 12)
      & (λ e. search (asides, same_rest, at_rest, e) depth 12)
      & (λ e. search (asides, same_rest, at_rest, e) depth 12)
      & (λ e. search (asides, same_rest, at_rest, e) depth 12)
      & (λ e. search (asides, same_rest, at_rest, e) depth 12)
      & (λ e. search (asides, same_rest, at_rest, e) depth 12)
      & (λ e. search (asides, same_rest, at_rest, e) depth 12)
      & (λ e. search (asides, same_rest, at_rest, e) depth 12)
      & tt)

  tag_rows : Each Next t.state (tag_states t b)
  unfolding within
  tag_rows =
      let back = return_aside t.regs.back h in
      ((λ e. search (asides, same_rest, at_rest, e) depth 12)
      & (λ e. search (asides, same_rest, at_rest, e) depth 12)
      & (λ e. search (asides, same_rest, at_rest, e) depth 12)
      & (λ e. search (asides, same_rest, at_rest, e) depth 12)
      & (λ e. search (asides, same_rest, at_rest, e) depth 12)
      & (λ e. search (asides, same_rest, at_rest, e) depth 12)
      & (λ e. search (asides, same_rest, at_rest, e) depth 12)
      & (λ e. search (asides, same_rest, at_rest, e) depth 12)
      & (λ e. search (asides, same_rest, at_rest, e) depth 12)
      & (λ e. search (asides, same_rest, at_rest, e) depth 12)
      & (λ e. search (asides, same_rest, at_rest, e) depth 12)
      & (λ e. search (asides, same_rest, at_rest, e) depth 12)
      & (λ e. search (asides, same_rest, at_rest, e) depth 12)
      & (λ e. search (asides, same_rest, at_rest, e) depth 12)
      & (λ e. search (asides, same_rest, at_rest, e, back) depth 12)
      & (λ e. search (asides, same_rest, at_rest, e, back) depth 12)
      & (λ e. search (asides, same_rest, at_rest, e) depth 12)
      & (λ e. search (asides, same_rest, at_rest, e, back) depth 12)
      & (λ e. search (asides, same_rest, at_rest, e) depth 12)
      & tt)

  pub tag_kept : of_tags t.state ≡ true → Next (decision page t b)
  tag_kept l = of_every_tag_state Next page t b l (to_end page asks refl) expression_rows tag_rows attribute_rows
