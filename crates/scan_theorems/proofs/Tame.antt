-- A decision that keeps a tokenizer in range: its next state is listed for the construct, and the numbers of its effect are in range.
use Prim.Native.Nat.{ℕ}
use mathlib.Core.Path.{◌≡◌, refl}
use mathlib.Core.Bool.{Bool, true, false, ◌&&◌, ◌||◌}
use native.Mathlib.Omega.{arith}
use lib.Dec.{leb, eqb}
use borrow.Author.Tests.{eqb-true, leb-true}
use Rattle.base.specs.Byte.{at_sign}
use Rattle.base.specs.If.{when◌then◌else◌}
use Rattle.base.proofs.Choice.{if_is, case, both, or_yes'}
use Rattle.base.specs.Range.{within}
use Rattle.base.proofs.Ranges.{is_within}
use Rattle.base.specs.State as state
use Rattle.base.specs.declared.Effect.{Effect}
use Rattle.base.specs.declared.Effect.TheVariants.{Keep, Deeper, Shallower, Open, PrefixBegins, PrefixGoesOn, PrefixEnds, PrefixInTab, Quote, Return, Save, Restore, Last, Fault, Refuse}
use Rattle.base.specs.declared.Move.{Move}
use Rattle.mdx_jsx.specs.Jsx.{no_note, link_in_mdx}
use Rattle.mdx_jsx_name.specs.Name.{link_note}
use Rattle.tokenizer.specs.Ranges.{esm, runs_in, is_answer, listed, is_return}

-- the answers that end a scan
abbrev pub answers : ℕ → Bool
answers name = within state.done state.nok name || within state.not_ascii state.full name

-- the states that a scan can be in: of an ESM block, or of the other constructs
abbrev pub stands : Bool → ℕ → Bool
stands true name = answers name || (eqb name state.asking || within state.mdx_esm_start state.mdx_esm_verdict name)
stands false name = answers name || (eqb name state.asking || within state.mdx_expression_start state.mdx_jsx_es_whitespace_inside_retried name)

pub stands_listed : (construct name : ℕ) (e : Bool) → eqb construct esm ≡ e → stands e name ≡ true → listed construct name ≡ true
unfolding listed is_answer runs_in when◌then◌else◌
stands_listed construct name true c h = rw c h
stands_listed construct name false c h = rw c h

-- the numbers that an effect puts into the registers
abbrev pub calm : Effect → Bool
calm Keep = true
calm Deeper = true
calm Shallower = true
calm Open = true
calm PrefixBegins = true
calm PrefixGoesOn = true
calm PrefixEnds = true
calm (PrefixInTab passed) = true
calm (Quote b) = leb b 255
calm (Return name) = is_return name
calm Save = true
calm Restore = true
calm (Last n) = leb n 65535
calm (Fault n place) = leb n 65535
calm (Refuse site note) = leb site 19 && leb note 4

pub data Tame (e : Bool) (m : Move) : Type 0 where
  tame : stands e m.next ≡ true → calm m.effect ≡ true → Tame e m

-- a choice of tame decisions
pub either : (e t : Bool) (x y : Move) → Tame e x → Tame e y → Tame e (when t then x else y)
either e t x y p q = if_is Move (Tame e) t x y (λ h. p) (λ h. q)

-- where white space and an expression return to
pub return_stands : (name : ℕ) → is_return name ≡ true → stands false name ≡ true
unfolding is_return within
return_stands name h =
    case _ (eqb name 0) (λ e. rw (eqb-true name 0 e))
    (λ e.
    let w = both (leb state.mdx_jsx_attribute_value_quoted_start name) (leb name state.mdx_jsx_attribute_value_expression_after) (rw e at h) in
    or_yes' (answers name) _
    (or_yes' (eqb name state.asking) _
    (is_within state.mdx_expression_start state.mdx_jsx_es_whitespace_inside_retried name (omega (arith, leb-true state.mdx_jsx_attribute_value_quoted_start name w.0)) (omega (arith, leb-true name state.mdx_jsx_attribute_value_expression_after w.1)))))

-- a choice of notes
pub link_note_lem : (b : ℕ) → leb (link_note b) 4 ≡ true
link_note_lem b = if_is ℕ (λ (k : ℕ). leb k 4 ≡ true) (eqb b at_sign) link_in_mdx no_note (λ e. refl) (λ e. refl)

pub ruleset tames = (either, tame, refl, link_note_lem)
