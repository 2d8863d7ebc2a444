-- A step of a tag opens no expression and closes none; it comes to one by its start.
use Prim.Native.Nat.{ℕ}
use native.Mathlib.Omega.{arith}
use mathlib.Core.Path.{◌≡◌, refl, sym, ◌∙◌}
use mathlib.Core.Bool.{Bool, true, false, not, ◌||◌}
use mathlib.Core.List.{List}
use lib.Dec.{eqb}
use borrow.Author.Tests.{eqb-true}
use Rattle.base.proofs.Tables.{◌&◌, Each}
use Rattle.base.specs.If.{when◌then◌else◌, among}
use Rattle.base.proofs.Choice.{if_is, and_no, or_cases, or_left, or_right, not_yes}
use Rattle.base.specs.Range.{within}
use Rattle.base.proofs.Ranges.{within_is, all_hold}
use Rattle.base.specs.Kind as kind
use Rattle.base.specs.State as state
use Rattle.base.specs.Decide.{list_of, refuse}
use Rattle.base.specs.declared.Effect.{Effect}
use Rattle.base.specs.declared.Effect.TheVariants.{Keep, Deeper, Shallower, Open, PrefixBegins, PrefixGoesOn, PrefixEnds, PrefixInTab, Quote, Return, Save, Restore, Last, Fault, Refuse}
use Rattle.base.specs.declared.Move.{Move}
use Rattle.mdx_expression.specs.Expression.{in_expression}
use Rattle.mdx_jsx.specs.Jsx as jsx
use Rattle.tokenizer.specs.Decision.{text, tag_token, tag_states, attribute_states}
use Rattle.tokenizer.specs.Moved.{changed, moved}
use Rattle.tokenizer.specs.Ranges.{is_return}
use Rattle.tokenizer.specs.declared.Regs.{Regs}
use Rattle.tokenizer.specs.declared.Tokenizer.{Tokenizer}
use Rattle.scan_theorems.proofs.Tests.{clash}
use Rattle.brace_theorems.proofs.Turn.{inside, Held, other_marks, Turn, stays}

abbrev depth_stays : Effect → Bool
depth_stays Keep = true
depth_stays Deeper = false
depth_stays Shallower = false
depth_stays Open = true
depth_stays PrefixBegins = true
depth_stays PrefixGoesOn = true
depth_stays PrefixEnds = true
depth_stays (PrefixInTab passed) = true
depth_stays (Quote b) = true
depth_stays (Return name) = true
depth_stays Save = true
depth_stays Restore = true
depth_stays (Last n) = true
depth_stays (Fault n place) = true
depth_stays (Refuse site note) = true

depth_kept : (e : Effect) (at next : ℕ) (r : Regs) → depth_stays e ≡ true → (changed e at next r).depth ≡ r.depth
depth_kept Keep at next r h = refl
depth_kept Deeper at next r h = clash false h refl
depth_kept Shallower at next r h = clash false h refl
depth_kept Open at next r h = refl
depth_kept PrefixBegins at next r h = refl
depth_kept PrefixGoesOn at next r h = refl
depth_kept PrefixEnds at next r h = refl
depth_kept (PrefixInTab passed) at next r h = refl
depth_kept (Quote b) at next r h = refl
depth_kept (Return name) at next r h = refl
depth_kept Save at next r h = refl
depth_kept Restore at next r h = refl
depth_kept (Last n) at next r h = refl
depth_kept (Fault n place) at next r h = refl
depth_kept (Refuse site note) at next r h = refl

-- a decision that goes to no state of an expression but its start, and marks none
pub data Aside (m : Move) : Type 0 where
  aside : inside m.next ≡ false → eqb m.next state.eof ≡ false → depth_stays m.effect ≡ true → other_marks (list_of m.marks) ≡ true → Aside m
  unended : (site note : ℕ) → eqb site in_expression ≡ false → m ≡ refuse state.eof site note → Aside m

either : (t : Bool) (x y : Move) → Aside x → Aside y → Aside (when t then x else y)
either t x y p q = if_is Move Aside t x y (λ h. p) (λ h. q)

pub return_outside : (back : ℕ) → is_return back ≡ true → (inside back ≡ false) × (eqb back state.eof ≡ false)
unfolding is_return within
return_outside back h =
    or_cases _ (eqb back 0) _ h (λ e. rw (eqb-true back 0 e) (refl, refl))
    (λ e.
    let w = within_is state.mdx_jsx_attribute_value_quoted_start state.mdx_jsx_attribute_value_expression_after back e in
    let none = not_yes (inside back || eqb back state.eof) (all_hold (λ (x : ℕ). not (inside x || eqb x state.eof)) 16 40 back refl w.0 (omega (arith, w.1))) in
    (or_left (inside back) _ none, or_right (inside back) _ none))

returned : (m : Move) → is_return m.next ≡ true → depth_stays m.effect ≡ true → other_marks (list_of m.marks) ≡ true → Aside m
returned m h d o = let r = return_outside m.next h in aside r.0 r.1 d o

-- a quoted value that does not end
unquoted : (site note : ℕ) → eqb site in_expression ≡ false → Aside (refuse state.eof site note)
unquoted site note h = unended site note h refl

ruleset asides = (either, aside, unquoted, refl)

module _ (t : Tokenizer) (b : ℕ) where
  -- the event of the tag itself is of no expression
  of_either_tag : (P : ℕ → Type 0) → P kind.jsx_text_tag → P kind.jsx_flow_tag → P (tag_token t.job.kind)
  of_either_tag P x y = if_is ℕ P (eqb t.job.kind text) _ _ (λ h. x) (λ h. y)

  pub tag_aside : is_return t.regs.back ≡ true → Each Aside t.state (tag_states t b)
  unfolding within among
  tag_aside h =
      ((λ k. of_either_tag (λ (tag : ℕ). Aside (jsx.start b tag)) (search asides depth 12) (search asides depth 12))
      & (λ k. search asides depth 12)
      & (λ k. search asides depth 12)
      & (λ k. search asides depth 12)
      & (λ k. of_either_tag (λ (tag : ℕ). Aside (jsx.tag_end b tag)) (search asides depth 12) (search asides depth 12))
      & (λ k. search asides depth 12)
      & (λ k. search asides depth 12)
      & (λ k. search asides depth 12)
      & (λ k. search asides depth 12)
      & (λ k. search asides depth 12)
      & (λ k. search asides depth 12)
      & (λ k. search asides depth 12)
      & (λ k. search asides depth 12)
      & (λ k. search asides depth 12)
      & (λ k. search (asides, returned) depth 12)
      & (λ k. search (asides, returned) depth 12)
      & (λ k. search asides depth 12)
      & (λ k. search (asides, returned) depth 12)
      & (λ k. search asides depth 12)
      & tt)

  pub attribute_aside : Each Aside t.state (attribute_states t b)
  unfolding within among
  attribute_aside =
      ((λ k. search asides depth 12)
      & (λ k. search asides depth 12)
      & (λ k. search asides depth 12)
      & (λ k. search asides depth 12)
      & (λ k. search asides depth 12)
      & (λ k. search asides depth 12)
      & (λ k. search asides depth 12)
      & (λ k. search asides depth 12)
      & (λ k. search asides depth 12)
      & (λ k. search asides depth 12)
      & (λ k. search asides depth 12)
      & tt)

module _ (page : List ℕ) (t : Tokenizer) (held : Held page t) where
  -- where no expression is open, such a decision leaves it so
  pub left_alone : inside t.state ≡ false → (m : Move) → Aside m → Turn page t m
  unfolding moved within
  left_alone was m (aside a e d o) =
      stays o
      (record {
        held = record {
          outside = λ i. depth_kept m.effect t.at _ t.regs d ∙ held.outside was;
          passed = λ i. clash (inside m.next) i a;
          goes_on = and_no (eqb m.next state.eof) _ e;
        };
        alike = a ∙ sym was;
        brace = λ i. clash (inside t.state) i was;
        token = λ i. clash (inside t.state) i was;
        back = λ i. clash (inside t.state) i was;
      })
  left_alone was m (unended site note h q) =
      rw q
      (stays refl
      (record {
        held = record { outside = λ i. held.outside was; passed = λ i. clash false i refl; goes_on = h };
        alike = sym was;
        brace = λ i. clash (inside t.state) i was;
        token = λ i. clash (inside t.state) i was;
        back = λ i. clash (inside t.state) i was;
      }))
