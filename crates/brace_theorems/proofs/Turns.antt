-- Every step is one of the four.
use Prim.Native.Nat.{ℕ, ◌≤◌}
use native.Mathlib.Omega.{arith}
use mathlib.Core.Path.{◌≡◌, refl}
use mathlib.Core.Bool.{Bool, true, false, not, ◌&&◌}
use mathlib.Core.List.{List, [], ◌∷◌}
use lib.ListN.{length}
use Rattle.base.proofs.Tables.{◌&◌, keys, Each}
use Rattle.base.specs.If.{among}
use Rattle.base.proofs.Choice.{if_is, both, not_yes}
use Rattle.base.specs.Range.{within}
use Rattle.base.proofs.Ranges.{within_is, above}
use Rattle.base.specs.Page.{byte_at, page_limit}
use Rattle.base.specs.State as state
use Rattle.base.specs.Decide.{retry}
use Rattle.base.specs.declared.Marks.TheVariants.{Nothing}
use Rattle.base.specs.declared.Move.{Move}
use Rattle.tokenizer.specs.Decision.{not_ascii, takes_ascii, refuses_not_ascii, expression_states, tag_states, attribute_states, decision}
use Rattle.tokenizer.specs.Ranges.{is_return}
use Rattle.tokenizer.specs.declared.Tokenizer.{Tokenizer}
use Rattle.scan_theorems.proofs.Tests.{clash}
use Rattle.scan_theorems.proofs.EveryState.{of_tags, tag_state_decides}
use Rattle.scan_theorems.proofs.Unasked.{needs_verdict, Counts}
use Rattle.page.proofs.Bytes.{Bytes}
use Rattle.brace_theorems.proofs.Turn.{inside, Held, Turn}
use Rattle.brace_theorems.proofs.TagTurns.{Aside, aside, tag_aside, attribute_aside, left_alone}
use Rattle.brace_theorems.proofs.ExpressionTurns.{start_turns, before_turns, inside_turns, eol_turns, prefix_turns}

module _ (page : List ℕ) (t : Tokenizer) (held : Held page t) where
  abbrev b : ℕ
  b = byte_at page t.at

  abbrev none_inside : List ℕ → Bool
  none_inside [] = true
  none_inside (name ∷ names) = not (inside name) && none_inside names

  -- a state's number tells whether it is inside
  told : (name : ℕ) (x : Bool) → inside name ≡ x → t.state ≡ name → inside t.state ≡ x
  told name x h e = rw e h

  module _ (size : length page ≡ t.job.length) (short : length page ≤ page_limit) (bytes : Bytes page) (c : Counts t) (h : is_return t.regs.back ≡ true) where
    expression_turns : Each (Turn page t) t.state (expression_states page t b)
    unfolding within
    expression_turns =
        ((λ e. start_turns page t held size (told _ false refl e))
        & (λ e. before_turns page t held size (told _ true refl e) bytes c h)
        & (λ e. inside_turns page t held size (told _ true refl e) short c)
        & (λ e. eol_turns page t held size (told _ true refl e))
        & (λ e. prefix_turns page t held size (told _ true refl e))
        & (λ e. clash (needs_verdict t.state) (rw e refl) c.free)
        & tt)

    -- the states of a tag are none of an expression's
    alone : (rows : List (ℕ × Move)) → none_inside (keys rows) ≡ true → Each Aside t.state rows → Each (Turn page t) t.state rows
    alone [] n a = tt
    alone (row ∷ rows) n a =
        let p = both (not (inside row.0)) (none_inside (keys rows)) n in
        (λ e. left_alone page t held (told row.0 false (not_yes (inside row.0) p.0) e) row.1 (a.0 e), alone rows p.1 a.1)

    -- no state of an expression refuses a byte before it runs
    not_ascii_lem : refuses_not_ascii t.state b ≡ true → Turn page t (retry state.not_ascii Nothing)
    unfolding within among
    not_ascii_lem r =
        let w = within_is state.mdx_jsx_name_before state.mdx_jsx_es_whitespace_inside_retried t.state (both (not_ascii b) (takes_ascii t.state) r).1 in
        left_alone page t held (above state.mdx_expression_before state.mdx_expression_prefix t.state (omega (arith, w.0))) (retry state.not_ascii Nothing) (aside refl refl refl refl)

    tags_alone : Each (Turn page t) t.state (tag_states t b)
    unfolding within
    tags_alone = alone (tag_states t b) refl (tag_aside t b h)

    attributes_alone : Each (Turn page t) t.state (attribute_states t b)
    unfolding within
    attributes_alone = alone (attribute_states t b) refl (attribute_aside t b)

    pub turns : of_tags t.state ≡ true → Turn page t (decision page t b)
    unfolding decision
    turns l =
        if_is Move (Turn page t) (refuses_not_ascii t.state b) _ _ not_ascii_lem
        (λ r. tag_state_decides (Turn page t) page t b l expression_turns tags_alone attributes_alone)
