-- What one step of a scan without a verdict source does to the expressions of its construct: it opens one, closes the one that is open at its
-- closing offset, ends because there is none, or leaves the matter as it is.
use Prim.Native.Nat.{ℕ, ◌+◌, ◌-◌, ◌≤◌}
use mathlib.Core.Path.{◌≡◌}
use mathlib.Core.Bool.{Bool, true, false, not, ◌&&◌}
use mathlib.Core.List.{List, [], ◌∷◌}
use mathlib.Core.Option.{none, some}
use lib.Dec.{eqb}
use lib.ListN.{length, get_or}
use Rattle.base.specs.If.{among}
use Rattle.base.specs.Range.{within}
use Rattle.base.specs.Byte.{left_brace}
use Rattle.base.specs.Kind as kind
use Rattle.base.specs.State as state
use Rattle.base.specs.Decide.{list_of}
use Rattle.base.specs.declared.Mark.{Mark}
use Rattle.base.specs.declared.Mark.TheVariants.{Enter, Exit, Leave}
use Rattle.base.specs.declared.Marks.TheVariants.{Nothing, Three}
use Rattle.base.specs.declared.Move.{Move}
use Rattle.mdx_expression.specs.Expression.{in_expression}
use Rattle.tokenizer.specs.Decision.{expression_token}
use Rattle.tokenizer.specs.Moved.{moved}
use Rattle.tokenizer.specs.declared.Tokenizer.{Tokenizer}
use Rattle.brace_theorems.specs.Braces.{closing_of}
use Rattle.brace_theorems.specs.Closing.{expression_kinds}
use Rattle.brace_theorems.proofs.Braces.{Passed}

-- between an expression's `{` and its `}`
abbrev pub inside : ℕ → Bool
inside name = within state.mdx_expression_before state.mdx_expression_prefix name

-- where the `{` stands of the expression that is open, and the kind of its event
abbrev pub brace_of : Tokenizer → ℕ
brace_of t = t.regs.body - 1

abbrev pub token_of : Tokenizer → ℕ
token_of t = expression_token t.job.kind t.regs.back

-- it rests at 6 with where-number 19
abbrev pub ends_inside : Tokenizer → Bool
ends_inside t = eqb t.state state.eof && eqb t.regs.site in_expression

-- the registers say of the braces that are passed what the page says
pub record Held (page : List ℕ) (t : Tokenizer) : Type 0 where
  pub outside : inside t.state ≡ false → t.regs.depth ≡ 0
  pub passed : inside t.state ≡ true → Passed page (brace_of t) t.at t.regs.depth
  pub goes_on : ends_inside t ≡ false

-- none of the marks is of an expression's kind
abbrev other_mark : Mark → Bool
other_mark (Enter kind) = not (among expression_kinds kind)
other_mark (Exit kind) = not (among expression_kinds kind)
other_mark (Leave kind) = not (among expression_kinds kind)

abbrev pub other_marks : List Mark → Bool
other_marks [] = true
other_marks (mark ∷ marks) = other_mark mark && other_marks marks

-- The tokenizers before a step, t, and after it, u: the same expression is open, or none
pub record Same (page : List ℕ) (t u : Tokenizer) : Type 0 where
  pub held : Held page u
  pub alike : inside u.state ≡ inside t.state
  pub brace : inside t.state ≡ true → brace_of u ≡ brace_of t
  pub token : inside t.state ≡ true → token_of u ≡ token_of t
  pub back : inside t.state ≡ true → u.regs.back ≡ t.regs.back

-- the `{` of one is passed
pub record Begun (page : List ℕ) (t u : Tokenizer) : Type 0 where
  pub held : Held page u
  pub was : inside t.state ≡ false
  pub now : inside u.state ≡ true
  pub byte : get_or page t.at 0 ≡ left_brace
  pub brace : brace_of u ≡ t.at
  pub token : token_of u ≡ token_of t
  pub back : u.regs.back ≡ t.regs.back

-- its closing offset is passed, and the scan goes back to where it came from
pub record Over (page : List ℕ) (t u : Tokenizer) : Type 0 where
  pub held : Held page u
  pub was : inside t.state ≡ true
  pub now : inside u.state ≡ false
  pub closing : closing_of page (brace_of t) ≡ some t.at
  pub state : u.state ≡ t.regs.back
  pub place : u.at ≡ t.at + 1

-- the page ends, and it has no closing offset
pub record Cut (page : List ℕ) (t u : Tokenizer) : Type 0 where
  pub was : inside t.state ≡ true
  pub now : ends_inside u ≡ true
  pub closing : closing_of page (brace_of t) ≡ none
  pub place : u.at ≡ t.at
  pub end : length page ≤ t.at

-- the four ways of a step, with the marks of its events
pub data Turn (page : List ℕ) (t : Tokenizer) (m : Move) : Type 0 where
  stays : other_marks (list_of m.marks) ≡ true → Same page t (moved t m) → Turn page t m
  begins : m.marks ≡ Three (Enter (token_of t)) (Enter kind.expression_marker) (Leave kind.expression_marker) → Begun page t (moved t m) → Turn page t m
  closes : m.marks ≡ Three (Enter kind.expression_marker) (Leave kind.expression_marker) (Leave (token_of t)) → Over page t (moved t m) → Turn page t m
  ends : m.marks ≡ Nothing → Cut page t (moved t m) → Turn page t m
