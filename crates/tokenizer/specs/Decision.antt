-- Which decision the state of a tokenizer makes, from the byte at its place, the page and the registers. It is the Rust's `state.rs`,
-- `call`, with what the states read of the tokenizer.
use Rattle.std.specs.Prelude.{ℕ, Bool, ◌&&◌, not, List, [], ◌∷◌, eqb}
use Rattle.base.specs.Byte.{first_not_ascii, last_byte}
use Rattle.base.specs.If.{when◌then◌else◌}
use Rattle.base.specs.Range.{within}
use Rattle.base.specs.Kind as kind
use Rattle.base.specs.State as state
use Rattle.base.specs.Page.{after_line_feed, in_column_one}
use Rattle.base.specs.Table.{find}
use Rattle.base.specs.Decide.{retry}
use Rattle.base.specs.declared.Marks.TheVariants.{Nothing}
use Rattle.base.specs.declared.Move.{Move}
use Rattle.base.specs.declared.Verdict.{Verdict}
use Rattle.base.specs.declared.Verdict.TheVariants.{Fine, Unfinished, Wrong}
use Rattle.body_places.specs.Body.{place_of, expression_places, esm_places}
use Rattle.mdx_expression.specs.Expression as expression
use Rattle.mdx_jsx.specs.Jsx as jsx
use Rattle.mdx_jsx_name.specs.Name as name
use Rattle.mdx_jsx_attribute.specs.Attribute as attribute
use Rattle.mdx_esm.specs.Esm as esm
use Rattle.mdx_esm.specs.Word.{is_word}
use Rattle.tokenizer.specs.declared.Tokenizer.{Tokenizer}

-- kinds of a scan: flow and text
abbrev pub flow : ℕ
flow = 0

abbrev pub text : ℕ
text = 1

-- `token_1` of a tag
abbrev pub tag_token : ℕ → ℕ
tag_token k = when eqb k text then kind.jsx_text_tag else kind.jsx_flow_tag

-- `token_1` while an expression runs: in a tag it is known by where the expression returns to
abbrev pub expression_token : ℕ → ℕ → ℕ
expression_token k back =
    when eqb back state.mdx_jsx_attribute_expression_after then kind.jsx_tag_attribute_expression
    else when eqb back state.mdx_jsx_attribute_value_expression_after then kind.jsx_tag_attribute_value_expression
    else when eqb k text then kind.text_expression
    else kind.flow_expression

-- row 5: "a tag state other than start and the two quoted-value states runs with a byte of 128 or more at its place"
abbrev pub not_ascii : ℕ → Bool
not_ascii b = within first_not_ascii last_byte b

abbrev pub takes_ascii : ℕ → Bool
takes_ascii name = within state.mdx_jsx_name_before state.mdx_jsx_es_whitespace_inside_retried name

abbrev pub refuses_not_ascii : ℕ → ℕ → Bool
refuses_not_ascii name b = not_ascii b && takes_ascii name

-- where a verdict that says error stands in the body with these places; `at` is the place that asked
abbrev pub fault_at : Verdict → List ℕ → ℕ → ℕ
fault_at Fine places at = at
fault_at (Unfinished n) places at = at
fault_at (Wrong n r) places at = place_of places r at

-- in an expression, whose body begins at `from`; and in an ESM block
unfoldable pub expression_fault : List ℕ → Verdict → ℕ → ℕ → ℕ
expression_fault page heard from at = fault_at heard (expression_places page from at) at

unfoldable pub esm_fault : Verdict → ℕ → ℕ → ℕ
esm_fault heard from at = fault_at heard (esm_places from at) at

-- ESM "needs column 1 (start is 0 or follows a line feed), a clear interrupt flag, a verdict source"
abbrev pub esm_allowed : List ℕ → Tokenizer → Bool
esm_allowed page s = not s.job.interrupt && (s.job.asks && in_column_one page s.at)

-- the states of an expression by their numbers, and the decision of each on the byte b
abbrev pub expression_states : List ℕ → Tokenizer → ℕ → List (ℕ × Move)
expression_states page s b =
    let token = expression_token s.job.kind s.regs.back in
    let back = s.regs.back in
    (state.mdx_expression_start, expression.start b token)
    ∷ (state.mdx_expression_before, expression.before b s.regs.depth s.job.asks s.regs.last token back)
    ∷ (state.mdx_expression_inside, expression.inside b s.regs.depth s.job.asks)
    ∷ (state.mdx_expression_eol_after, expression.eol_after b)
    ∷ (state.mdx_expression_prefix, expression.prefix b s.regs.prefix)
    ∷ (state.mdx_expression_verdict, expression.verdict s.heard (expression_fault page s.heard s.regs.body s.at) token back)
    ∷ []

-- the states of a tag's ends, name and white space
abbrev pub tag_states : Tokenizer → ℕ → List (ℕ × Move)
tag_states s b =
    let tag = tag_token s.job.kind in
    let back = s.regs.back in
    (state.mdx_jsx_start, jsx.start b tag)
    ∷ (state.mdx_jsx_start_after, jsx.start_after b)
    ∷ (state.mdx_jsx_name_before, name.name_before b)
    ∷ (state.mdx_jsx_closing_tag_name_before, name.closing_tag_name_before b)
    ∷ (state.mdx_jsx_tag_end, jsx.tag_end b tag)
    ∷ (state.mdx_jsx_primary_name, name.primary_name b)
    ∷ (state.mdx_jsx_primary_name_after, name.primary_name_after b)
    ∷ (state.mdx_jsx_member_name_before, name.member_name_before b)
    ∷ (state.mdx_jsx_member_name, name.member_name b)
    ∷ (state.mdx_jsx_member_name_after, name.member_name_after b)
    ∷ (state.mdx_jsx_local_name_before, name.local_name_before b)
    ∷ (state.mdx_jsx_local_name, name.local_name b)
    ∷ (state.mdx_jsx_local_name_after, name.local_name_after b)
    ∷ (state.mdx_jsx_self_closing, jsx.self_closing b)
    ∷ (state.mdx_jsx_es_whitespace_start, jsx.es_whitespace_start b back)
    ∷ (state.mdx_jsx_es_whitespace_inside, jsx.es_whitespace_inside b back)
    ∷ (state.mdx_jsx_es_whitespace_eol_after, jsx.es_whitespace_eol_after)
    ∷ (state.mdx_jsx_es_whitespace_start_retried, jsx.es_whitespace_start_retried b back)
    ∷ (state.mdx_jsx_es_whitespace_inside_retried, jsx.es_whitespace_inside_retried)
    ∷ []

-- the states of a tag's attributes
abbrev pub attribute_states : Tokenizer → ℕ → List (ℕ × Move)
attribute_states s b =
    (state.mdx_jsx_attribute_value_quoted_start, attribute.attribute_value_quoted_start b s.regs.quote)
    ∷ (state.mdx_jsx_attribute_value_quoted, attribute.attribute_value_quoted b s.regs.quote)
    ∷ (state.mdx_jsx_attribute_before, attribute.attribute_before b)
    ∷ (state.mdx_jsx_attribute_expression_after, attribute.attribute_expression_after)
    ∷ (state.mdx_jsx_attribute_primary_name, attribute.attribute_primary_name b)
    ∷ (state.mdx_jsx_attribute_primary_name_after, attribute.attribute_primary_name_after b)
    ∷ (state.mdx_jsx_attribute_local_name_before, attribute.attribute_local_name_before b)
    ∷ (state.mdx_jsx_attribute_local_name, attribute.attribute_local_name b)
    ∷ (state.mdx_jsx_attribute_local_name_after, attribute.attribute_local_name_after b)
    ∷ (state.mdx_jsx_attribute_value_before, attribute.attribute_value_before b)
    ∷ (state.mdx_jsx_attribute_value_expression_after, attribute.attribute_value_expression_after)
    ∷ []

-- the states of an ESM block
abbrev pub esm_states : List ℕ → Tokenizer → ℕ → List (ℕ × Move)
esm_states page s b =
    (state.mdx_esm_start, esm.start b (esm_allowed page s))
    ∷ (state.mdx_esm_word, esm.word b (is_word page s.job.start s.at))
    ∷ (state.mdx_esm_inside, esm.inside b)
    ∷ (state.mdx_esm_line_start, esm.line_start b)
    ∷ (state.mdx_esm_continuation_start, esm.continuation_start)
    ∷ (state.mdx_esm_blank_line_before, esm.blank_line_before)
    ∷ (state.mdx_esm_blank_line, esm.blank_line b)
    ∷ (state.mdx_esm_at_end, esm.at_end)
    ∷ (state.mdx_esm_verdict, esm.verdict s.heard b (after_line_feed page s.at) (esm_fault s.heard s.job.start s.at))
    ∷ []

-- no state has this number
abbrev pub no_state : Move
no_state = retry state.bad_call Nothing

-- the decision of a state of an expression, of a tag and its attributes, of an ESM block
unfoldable pub expression_decision : List ℕ → Tokenizer → ℕ → Move
expression_decision page s b = find s.state (expression_states page s b) no_state

unfoldable pub attribute_decision : Tokenizer → ℕ → Move
attribute_decision s b = find s.state (attribute_states s b) no_state

unfoldable pub tag_decision : Tokenizer → ℕ → Move
tag_decision s b = find s.state (tag_states s b) (attribute_decision s b)

unfoldable pub esm_decision : List ℕ → Tokenizer → ℕ → Move
esm_decision page s b = find s.state (esm_states page s b) no_state

-- the states are numbered by construct: first those of an expression, then those of a tag, then those of an ESM block
abbrev pub of_expression : ℕ → Bool
of_expression name = within state.mdx_expression_start state.mdx_expression_verdict name

abbrev pub of_tag : ℕ → Bool
of_tag name = within state.mdx_jsx_start state.mdx_jsx_es_whitespace_inside_retried name

unfoldable pub state_decision : List ℕ → Tokenizer → ℕ → Move
state_decision page s b =
    when of_expression s.state then expression_decision page s b
    else when of_tag s.state then tag_decision s b
    else esm_decision page s b

-- the decision of the state that the scan is in
unfoldable pub decision : List ℕ → Tokenizer → ℕ → Move
decision page s b =
    when refuses_not_ascii s.state b then retry state.not_ascii Nothing
    else state_decision page s b
