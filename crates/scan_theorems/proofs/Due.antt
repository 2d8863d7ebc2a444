-- What a tokenizer over a page may still cost. It is nothing where the scan has ended, and a tokenizer that asks may cost as much as the
-- one that has heard its verdict.
--
-- An expression or a tag pays the most that a byte costs for each byte that is left, and at the byte where it stands its rank. An ESM block
-- looks ahead from each line ending over the spaces and tabs of the next line, which it passes again afterwards: so these bytes are paid
-- for when the block passes them, and less is left by each of them while they are still to come.
use Prim.Native.Nat.{ℕ, ◌+◌, ◌-◌, ◌*◌, ◌≤◌, ◌<◌}
use native.Mathlib.Omega.{arith}
use native.Mathlib.Nat.{mul-le-mul}
use mathlib.Core.Path.{◌≡◌, ap, ◌∙◌}
use mathlib.Core.Bool.{true, false}
use mathlib.Core.List.{List, [], ◌∷◌}
use lib.ListN.{length}
use lib.Dec.{leb, eqb}
use borrow.Author.Tests.{le-leb}
use Rattle.base.specs.If.{when◌then◌else◌}
use Rattle.base.proofs.Choice.{case}
use Rattle.base.specs.Table.{find}
use Rattle.base.specs.Page.{byte_at}
use Rattle.base.specs.State as state
use Rattle.char_class.specs.Class.{is_space_or_tab}
use Rattle.tokenizer.specs.Ranges.{esm}
use Rattle.tokenizer.specs.declared.Regs.{Regs}
use Rattle.tokenizer.specs.declared.Tokenizer.{Tokenizer}
use Rattle.scan_theorems.proofs.Price.{Prices, steps}
use Rattle.scan_theorems.proofs.Rank.{rank}
use Rattle.scan_theorems.proofs.Blanks.{blanks, blanks_fit, blanks_more, blanks_none}

module _ (p : Prices) (page : List ℕ) where
  -- for each byte from a place to the page's end, the most that it costs
  unfoldable pub ahead : ℕ → ℕ
  ahead at = p.most * (length page - at)

  pub ahead_step : (at : ℕ) → at < length page → ahead at ≡ ahead (at + 1) + p.most
  unfolding ahead
  ahead_step at l =
      let n : length page - at ≡ length page - (at + 1) + 1 = omega arith in
      ap (λ (k : ℕ). p.most * k) n ∙ omega arith

  -- the look-ahead over so many bytes
  unfoldable pub passing : ℕ → ℕ
  passing n = p.none * n

  pub passing_more : (n : ℕ) → passing (n + 1) ≡ passing n + p.none
  unfolding passing
  passing_more n = omega arith

  pub passing_none : passing 0 ≡ 0
  unfolding passing
  passing_none = omega arith

  -- it is paid for by the bytes to come
  pub passing_fits : (n at : ℕ) → n ≤ length page - at → passing n ≤ ahead at
  unfolding passing ahead
  passing_fits n at h = mul-le-mul (omega (arith, p)) h

  -- the look-ahead from a place on: over the spaces and tabs there
  unfoldable pub again : ℕ → ℕ
  again at = passing (blanks page at)

  pub again_fit : (at : ℕ) → again at ≤ ahead at
  unfolding again
  again_fit at = passing_fits (blanks page at) at (blanks_fit page at)

  pub again_none : (at : ℕ) → is_space_or_tab (byte_at page at) ≡ false → again at ≡ 0
  unfolding again
  again_none at h = ap passing (blanks_none page at h) ∙ passing_none

  pub again_more : (at : ℕ) → is_space_or_tab (byte_at page at) ≡ true → at < length page → again at ≡ again (at + 1) + p.none
  unfolding again
  again_more at h l = ap passing (blanks_more page at h l) ∙ passing_more (blanks page (at + 1))

  pub again_step : (at : ℕ) → at < length page → again at ≤ again (at + 1) + p.none
  again_step at l =
      case _ (is_space_or_tab (byte_at page at)) (λ e. omega (arith, again_more at e l)) (λ e. omega (arith, again_none at e))

  -- ---- an ESM block

  -- applying a verdict: the block goes on with a line ending
  abbrev pub judging : ℕ
  judging = p.none + p.two

  -- the look-ahead from a line ending, and what decides there
  abbrev pub looking : ℕ
  looking = p.none + (p.none + (p.none + judging))

  unfoldable pub esm_due : ℕ → ℕ → ℕ → ℕ
  esm_due name at saved =
      find name
      ((state.mdx_esm_start, ahead at + p.two)
      ∷ (state.mdx_esm_word, ahead at + p.none)
      ∷ (state.mdx_esm_inside, ahead at + (p.one + (p.none + looking)) - again at)
      ∷ (state.mdx_esm_line_start, ahead at + (p.none + looking) - again at)
      ∷ (state.mdx_esm_blank_line_before, ahead at + looking)
      ∷ (state.mdx_esm_blank_line, ahead saved + looking - passing (at - saved))
      ∷ (state.mdx_esm_at_end, ahead at + (p.none + judging) - again (at + 1))
      ∷ (state.asking, ahead at + judging - again (at + 1))
      ∷ (state.mdx_esm_verdict, ahead at + judging - again (at + 1))
      ∷ (state.mdx_esm_continuation_start, ahead at + p.two - again (at + 1))
      ∷ [])
      p.none

  -- ---- any scan

  unfoldable pub due_of : ℕ → ℕ → ℕ → Regs → ℕ
  due_of construct name at r =
      when leb name state.bad_call then 0
      else when eqb construct esm then esm_due name at r.saved
      else ahead at + rank p name (byte_at page at) r

  unfoldable pub due : Tokenizer → ℕ
  due t = due_of t.job.construct t.state t.at t.regs

  -- the scan has ended
  pub due_over : (t : Tokenizer) → leb t.state state.bad_call ≡ true → due t ≡ 0
  unfolding due due_of when◌then◌else◌
  due_over t h = rw h

  pub due_ended : (t : Tokenizer) → t.state ≤ state.bad_call → due t ≡ 0
  due_ended t h = due_over t (le-leb t.state state.bad_call h)

  -- in an expression or a tag
  pub due_on : (construct name at : ℕ) (r : Regs) → eqb construct esm ≡ false → leb name state.bad_call ≡ false → due_of construct name at r ≡ ahead at + rank p name (byte_at page at) r
  unfolding due_of when◌then◌else◌
  due_on construct name at r c h = rw (h, c)

  -- in an ESM block
  pub due_esm : (construct name at : ℕ) (r : Regs) → eqb construct esm ≡ true → leb name state.bad_call ≡ false → due_of construct name at r ≡ esm_due name at r.saved
  unfolding due_of when◌then◌else◌
  due_esm construct name at r c h = rw (h, c)

-- the steps that are left to make
abbrev pub left : List ℕ → Tokenizer → ℕ
left = due steps
