-- When a step gives the answers 5, 6, 7 and 10: the scope's rows, in its words.
use Rattle.std.specs.Prelude.{ℕ, ◌-◌, ◌≡◌, Bool, true, false, not, ◌&&◌, ◌||◌, List, [], ◌∷◌, ltb, eqb, length}
use Rattle.base.specs.Byte.{dot, slash, colon, equals_sign, greater_than, left_brace, quotation_mark, apostrophe, first_not_ascii, last_byte, end_of_page}
use Rattle.base.specs.If.{among}
use Rattle.base.specs.Page.{byte_at}
use Rattle.base.specs.Range.{within}
use Rattle.base.specs.Table.{find}
use Rattle.base.specs.State as state
use Rattle.base.specs.Decide.{list_of}
use Rattle.char_class.specs.Class.{is_id_start, is_id_cont}
use Rattle.mdx_jsx.specs.Jsx.{whitespace_or_end, tag_goes_on, name_followed}
use Rattle.events.specs.Words.{room_in}
use Rattle.scan.specs.declared.Scan.{Scan}
use Rattle.scan.specs.Scan.{choice, marks_at, step_scan}

-- ---- row 5: "a tag state other than start and the two quoted-value states runs with a byte of 128 or more at its place"

abbrev pub tag_state : ℕ → Bool
tag_state name = within state.mdx_jsx_start state.mdx_jsx_es_whitespace_inside_retried name

abbrev pub takes_any_byte : ℕ → Bool
takes_any_byte name = among (state.mdx_jsx_start ∷ state.mdx_jsx_attribute_value_quoted_start ∷ state.mdx_jsx_attribute_value_quoted ∷ []) name

abbrev pub not_ascii_met : ℕ → ℕ → Bool
not_ascii_met name b = tag_state name && (not (takes_any_byte name) && within first_not_ascii last_byte b)

-- ---- row 6: "page ended at a quoted-value state, or in an expression with no unfinished verdict standing". The states that look for the
-- end are the quoted-value one that stands between two runs, and the expression's that stands between two

unfoldable pub end_met : ℕ → ℕ → ℕ → Bool
end_met name b last =
    find name
    ((state.mdx_jsx_attribute_value_quoted_start, eqb b end_of_page)
    ∷ (state.mdx_expression_before, eqb b end_of_page && eqb last 0)
    ∷ [])
    false

-- ---- row 7: "a tag state meets a byte it has no way on from"

-- the bytes that a tag state has a way on from, by the grammar; a state that is not listed has a way on from every byte
abbrev pub ways_on : ℕ → List (ℕ × Bool)
ways_on b =
    (state.mdx_jsx_name_before, eqb b slash || (eqb b greater_than || is_id_start b))
    ∷ (state.mdx_jsx_closing_tag_name_before, eqb b greater_than || is_id_start b)
    ∷ (state.mdx_jsx_tag_end, eqb b greater_than)
    ∷ (state.mdx_jsx_primary_name, (whitespace_or_end b || (eqb b dot || (eqb b colon || tag_goes_on b))) || is_id_cont b)
    ∷ (state.mdx_jsx_primary_name_after, eqb b dot || (eqb b colon || name_followed b))
    ∷ (state.mdx_jsx_member_name_before, is_id_start b)
    ∷ (state.mdx_jsx_member_name, (whitespace_or_end b || (eqb b dot || tag_goes_on b)) || is_id_cont b)
    ∷ (state.mdx_jsx_member_name_after, eqb b dot || name_followed b)
    ∷ (state.mdx_jsx_local_name_before, is_id_start b)
    ∷ (state.mdx_jsx_local_name, (whitespace_or_end b || tag_goes_on b) || is_id_cont b)
    ∷ (state.mdx_jsx_local_name_after, name_followed b)
    ∷ (state.mdx_jsx_self_closing, eqb b greater_than)
    ∷ (state.mdx_jsx_attribute_before, eqb b slash || (eqb b greater_than || (eqb b left_brace || is_id_start b)))
    ∷ (state.mdx_jsx_attribute_primary_name, (whitespace_or_end b || (eqb b colon || (eqb b equals_sign || tag_goes_on b))) || is_id_cont b)
    ∷ (state.mdx_jsx_attribute_primary_name_after, eqb b colon || (eqb b equals_sign || (whitespace_or_end b || name_followed b)))
    ∷ (state.mdx_jsx_attribute_local_name_before, is_id_start b)
    ∷ (state.mdx_jsx_attribute_local_name, (whitespace_or_end b || (eqb b equals_sign || tag_goes_on b)) || is_id_cont b)
    ∷ (state.mdx_jsx_attribute_local_name_after, eqb b equals_sign || name_followed b)
    ∷ (state.mdx_jsx_attribute_value_before, among (quotation_mark ∷ apostrophe ∷ []) b || eqb b left_brace)
    ∷ []

unfoldable pub way_on : ℕ → ℕ → Bool
way_on name b = find name (ways_on b) true

-- row 5 is looked at first
abbrev pub no_way_met : ℕ → ℕ → Bool
no_way_met name b = tag_state name && (not (not_ascii_met name b) && not (way_on name b))

-- ---- row 10: "a step's events don't all fit"

abbrev pub too_many_events : List ℕ → Scan → Bool
too_many_events page s =
    ltb (room_in s.tokenizer.job.words - s.used) (length (marks_at (byte_at page s.tokenizer.at) s (list_of (choice page s).marks)))

-- ---- of one step

pub record RowsOf (page : List ℕ) (s : Scan) : Type 0 where
  pub five : eqb (step_scan page s).tokenizer.state state.not_ascii ≡ not_ascii_met s.tokenizer.state (byte_at page s.tokenizer.at)
  pub six : eqb (step_scan page s).tokenizer.state state.eof ≡ end_met s.tokenizer.state (byte_at page s.tokenizer.at) s.tokenizer.regs.last
  pub seven : eqb (step_scan page s).tokenizer.state state.unexpected ≡ no_way_met s.tokenizer.state (byte_at page s.tokenizer.at)
  pub ten : eqb (step_scan page s).tokenizer.state state.full ≡ too_many_events page s
