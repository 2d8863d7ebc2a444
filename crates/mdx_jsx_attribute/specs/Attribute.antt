-- The states of a tag's attributes in `partial_mdx_jsx.rs`, each under its Rust name.
--
--     attributes_boolean ::= key [attributes_after_identifier]
--     attributes_expression ::= expression [attributes_after_value]
--     attributes_value ::= key initializer [attributes_after_value]
--     key ::= identifier [local]
--     initializer ::= *whitespace '=' *whitespace value
--     value ::= double_quoted | single_quoted | expression
--
-- docs/SCOPE.md, 'Tag': a quoted value ends at the same quote only, spans lines, and drops white space at each later line's head
-- from its value events; after `=` the plain attribute state returns Retry where the local one returns Next.
use Rattle.std.specs.Prelude.{ℕ, Bool, ◌||◌, [], ◌∷◌, eqb}
use Rattle.base.specs.If.{when◌then◌else◌, among}
use Rattle.base.specs.Byte.{line_feed, quotation_mark, apostrophe, slash, colon, less_than, equals_sign, greater_than, left_brace, end_of_page}
use Rattle.base.specs.Kind.{
  jsx_tag_self_closing_marker,
  jsx_tag_attribute,
  jsx_tag_attribute_name,
  jsx_tag_attribute_primary_name,
  jsx_tag_attribute_name_prefix_marker,
  jsx_tag_attribute_initializer_marker,
  jsx_tag_attribute_name_local,
  jsx_tag_attribute_value_literal,
  jsx_tag_attribute_value_literal_marker,
  jsx_tag_attribute_value_literal_value,
}
use Rattle.base.specs.State.{
  eof,
  mdx_expression_start,
  mdx_jsx_tag_end,
  mdx_jsx_attribute_before,
  mdx_jsx_self_closing,
  mdx_jsx_attribute_expression_after,
  mdx_jsx_attribute_primary_name,
  mdx_jsx_attribute_primary_name_after,
  mdx_jsx_attribute_local_name_before,
  mdx_jsx_attribute_local_name,
  mdx_jsx_attribute_local_name_after,
  mdx_jsx_attribute_value_before,
  mdx_jsx_attribute_value_expression_after,
  mdx_jsx_attribute_value_quoted_start,
  mdx_jsx_attribute_value_quoted,
  mdx_jsx_es_whitespace_start_retried,
}
use Rattle.base.specs.Decide.{eat, eat_with, retry, retry_with, refuse}
use Rattle.base.specs.declared.Mark.TheVariants.{Enter, Exit, Leave}
use Rattle.base.specs.declared.Marks.TheVariants.{Nothing, One, Two, Three, Four}
use Rattle.base.specs.declared.Effect.TheVariants.{Quote, Return}
use Rattle.base.specs.declared.Move.{Move}
use Rattle.char_class.specs.Class.{is_id_start}
use Rattle.mdx_jsx.specs.Jsx.{
  before_attribute_name,
  in_attribute_name,
  after_attribute_name,
  before_local_attribute_name,
  in_local_attribute_name,
  after_local_attribute_name,
  before_attribute_value,
  in_attribute_value,
  no_note,
  element_as_value,
  crash,
  whitespace_or_end,
  tag_goes_on,
  name_followed,
  whitespace_here,
  whitespace_after,
  in_a_name,
}

-- before an attribute, the slash that ends the tag, or its end
abbrev pub attribute_before : ℕ → Move
attribute_before b =
    when eqb b slash then whitespace_after (Two (Enter jsx_tag_self_closing_marker) (Leave jsx_tag_self_closing_marker)) mdx_jsx_self_closing
    else when eqb b greater_than then retry mdx_jsx_tag_end Nothing
    else when eqb b left_brace then retry_with mdx_expression_start Nothing (Return mdx_jsx_attribute_expression_after)
    else when is_id_start b then eat mdx_jsx_attribute_primary_name (Three (Enter jsx_tag_attribute) (Enter jsx_tag_attribute_name) (Enter jsx_tag_attribute_primary_name))
    else crash before_attribute_name no_note

-- after an attribute that is an expression
abbrev pub attribute_expression_after : Move
attribute_expression_after = whitespace_here Nothing mdx_jsx_attribute_before

-- what ends the first identifier of a key: white space, `:`, `=`, and what goes on in the tag
abbrev pub attribute_primary_name_ends : ℕ → Bool
attribute_primary_name_ends b = whitespace_or_end b || (eqb b colon || (eqb b equals_sign || tag_goes_on b))

-- in the first identifier of a key
abbrev pub attribute_primary_name : ℕ → Move
attribute_primary_name b =
    in_a_name b (attribute_primary_name_ends b) mdx_jsx_attribute_primary_name (One (Exit jsx_tag_attribute_primary_name)) mdx_jsx_attribute_primary_name_after in_attribute_name no_note

-- what follows an attribute without a value
abbrev pub attribute_followed : ℕ → Bool
attribute_followed b = whitespace_or_end b || name_followed b

-- after the first identifier of a key: [local], or '=', after which the white space state is retried with the byte eaten
abbrev pub attribute_primary_name_after : ℕ → Move
attribute_primary_name_after b =
    when eqb b colon then whitespace_after (Two (Enter jsx_tag_attribute_name_prefix_marker) (Leave jsx_tag_attribute_name_prefix_marker)) mdx_jsx_attribute_local_name_before
    else when eqb b equals_sign then
    eat_with mdx_jsx_es_whitespace_start_retried
    (Three (Exit jsx_tag_attribute_name) (Enter jsx_tag_attribute_initializer_marker) (Leave jsx_tag_attribute_initializer_marker))
    (Return mdx_jsx_attribute_value_before)
    else when attribute_followed b then whitespace_here (Two (Exit jsx_tag_attribute_name) (Exit jsx_tag_attribute)) mdx_jsx_attribute_before
    else crash after_attribute_name no_note

-- after the ':' of a key
abbrev pub attribute_local_name_before : ℕ → Move
attribute_local_name_before b =
    when is_id_start b then eat mdx_jsx_attribute_local_name (One (Enter jsx_tag_attribute_name_local))
    else crash before_local_attribute_name no_note

-- what ends the local part of a key: no `:`
abbrev pub attribute_local_name_ends : ℕ → Bool
attribute_local_name_ends b = whitespace_or_end b || (eqb b equals_sign || tag_goes_on b)

-- in the local part of a key
abbrev pub attribute_local_name : ℕ → Move
attribute_local_name b =
    in_a_name b (attribute_local_name_ends b) mdx_jsx_attribute_local_name (Two (Exit jsx_tag_attribute_name_local) (Exit jsx_tag_attribute_name)) mdx_jsx_attribute_local_name_after in_local_attribute_name no_note

-- after the local part of a key
abbrev pub attribute_local_name_after : ℕ → Move
attribute_local_name_after b =
    when eqb b equals_sign then whitespace_after (Two (Enter jsx_tag_attribute_initializer_marker) (Leave jsx_tag_attribute_initializer_marker)) mdx_jsx_attribute_value_before
    else when name_followed b then retry mdx_jsx_attribute_before (One (Exit jsx_tag_attribute))
    else crash after_local_attribute_name no_note

-- the quotes that open a value
abbrev pub opens_value : ℕ → Bool
opens_value b = among (quotation_mark ∷ apostrophe ∷ []) b

-- after '=': value ::= double_quoted | single_quoted | expression
abbrev pub attribute_value_before : ℕ → Move
attribute_value_before b =
    when opens_value b then
    eat_with mdx_jsx_attribute_value_quoted_start
    (Three (Enter jsx_tag_attribute_value_literal) (Enter jsx_tag_attribute_value_literal_marker) (Leave jsx_tag_attribute_value_literal_marker))
    (Quote b)
    else when eqb b left_brace then retry_with mdx_expression_start Nothing (Return mdx_jsx_attribute_value_expression_after)
    else when eqb b less_than then crash before_attribute_value element_as_value
    else crash before_attribute_value no_note

-- after a value that is an expression
abbrev pub attribute_value_expression_after : Move
attribute_value_expression_after = whitespace_here (One (Exit jsx_tag_attribute)) mdx_jsx_attribute_before

-- in a quoted value, not in a run of it. At a line ending the white space states run, and drop what opens the next line
--     double_quoted ::= '"' *double_quoted_text '"'
--     single_quoted ::= "'" *single_quoted_text "'"
abbrev pub attribute_value_quoted_start : ℕ → ℕ → Move
attribute_value_quoted_start b quote =
    when eqb b end_of_page then refuse eof in_attribute_value no_note
    else when eqb b quote then
    whitespace_after
    (Four (Enter jsx_tag_attribute_value_literal_marker) (Leave jsx_tag_attribute_value_literal_marker) (Leave jsx_tag_attribute_value_literal) (Leave jsx_tag_attribute))
    mdx_jsx_attribute_before
    else when eqb b line_feed then whitespace_here Nothing mdx_jsx_attribute_value_quoted_start
    else retry mdx_jsx_attribute_value_quoted (One (Enter jsx_tag_attribute_value_literal_value))

-- what ends a run of a quoted value: its quote, a line ending, the page's end
abbrev pub quoted_ends : ℕ → ℕ → Bool
quoted_ends b quote = eqb b quote || (eqb b line_feed || eqb b end_of_page)

-- in a run of a quoted value
abbrev pub attribute_value_quoted : ℕ → ℕ → Move
attribute_value_quoted b quote =
    when quoted_ends b quote then retry mdx_jsx_attribute_value_quoted_start (One (Exit jsx_tag_attribute_value_literal_value))
    else eat mdx_jsx_attribute_value_quoted Nothing
