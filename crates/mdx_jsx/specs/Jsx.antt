-- What the states of `partial_mdx_jsx.rs` share. docs/SCOPE.md, 'Classes' and 'The answer table': where-numbers and notes.
use Rattle.std.specs.Prelude.{ℕ, Bool, ◌||◌, [], ◌∷◌, eqb}
use Rattle.base.specs.If.{when◌then◌else◌, among}
use Rattle.base.specs.Byte.{line_feed, slash, less_than, greater_than, left_brace, end_of_page}
use Rattle.base.specs.Kind.{jsx_tag_marker, jsx_es_whitespace, line_ending}
use Rattle.base.specs.State.{
  done,
  nok,
  unexpected,
  mdx_jsx_start_after,
  mdx_jsx_name_before,
  mdx_jsx_tag_end,
  mdx_jsx_es_whitespace_start,
  mdx_jsx_es_whitespace_inside,
  mdx_jsx_es_whitespace_eol_after,
  mdx_jsx_es_whitespace_inside_retried,
}
use Rattle.base.specs.Decide.{eat, eat_with, retry, retry_with, refuse}
use Rattle.base.specs.declared.Mark.TheVariants.{Enter, Exit, Leave}
use Rattle.base.specs.declared.Marks.{Marks}
use Rattle.base.specs.declared.Marks.TheVariants.{Nothing, One, Two, Three}
use Rattle.base.specs.declared.Effect.TheVariants.{Return}
use Rattle.base.specs.declared.Move.{Move}
use Rattle.char_class.specs.Class.{is_whitespace, is_space_or_tab, is_id_start, is_id_cont}

-- where-numbers; no run meets the first
abbrev pub nowhere : ℕ
nowhere = 0

abbrev pub before_name : ℕ
before_name = 1

abbrev pub in_name : ℕ
in_name = 2

abbrev pub after_name : ℕ
after_name = 3

abbrev pub before_member_name : ℕ
before_member_name = 4

abbrev pub in_member_name : ℕ
in_member_name = 5

abbrev pub after_member_name : ℕ
after_member_name = 6

abbrev pub before_local_name : ℕ
before_local_name = 7

abbrev pub in_local_name : ℕ
in_local_name = 8

abbrev pub after_local_name : ℕ
after_local_name = 9

abbrev pub before_attribute_name : ℕ
before_attribute_name = 10

abbrev pub in_attribute_name : ℕ
in_attribute_name = 11

abbrev pub after_attribute_name : ℕ
after_attribute_name = 12

abbrev pub before_local_attribute_name : ℕ
before_local_attribute_name = 13

abbrev pub in_local_attribute_name : ℕ
in_local_attribute_name = 14

abbrev pub after_local_attribute_name : ℕ
after_local_attribute_name = 15

abbrev pub before_attribute_value : ℕ
before_attribute_value = 16

abbrev pub in_attribute_value : ℕ
in_attribute_value = 17

abbrev pub after_self_closing_slash : ℕ
after_self_closing_slash = 18

-- notes: how a comment, a link and an element as a value are written in MDX
abbrev pub no_note : ℕ
no_note = 0

abbrev pub comment_in_mdx : ℕ
comment_in_mdx = 1

abbrev pub comment_in_tag : ℕ
comment_in_tag = 2

abbrev pub link_in_mdx : ℕ
link_in_mdx = 3

abbrev pub element_as_value : ℕ
element_as_value = 4

-- `crash`: a byte that the state has no way on from
abbrev pub crash : ℕ → ℕ → Move
crash site note = refuse unexpected site note

-- `kind_after_index(..) == Whitespace`, which holds past the last byte too
abbrev pub whitespace_or_end : ℕ → Bool
whitespace_or_end b = eqb b end_of_page || is_whitespace b

-- what may follow a name in a tag: its ending slash, its end, an expression
abbrev pub tag_goes_on : ℕ → Bool
tag_goes_on b = among (slash ∷ greater_than ∷ left_brace ∷ []) b

-- what follows a whole name: `/`, `>`, `{` or an attribute
abbrev pub name_followed : ℕ → Bool
name_followed b = tag_goes_on b || is_id_start b

-- `attempt(State::Next(back), State::Nok)`, then the white space that may stand at this byte
abbrev pub whitespace_here : Marks → ℕ → Move
whitespace_here marks back = retry_with mdx_jsx_es_whitespace_start marks (Return back)

-- the same, with the byte eaten: the white space that may stand after it
abbrev pub whitespace_after : Marks → ℕ → Move
whitespace_after marks back = eat_with mdx_jsx_es_whitespace_start marks (Return back)

-- a marker of the kind `token`, of one byte: it is entered and left, and white space may stand after it
abbrev pub marker : ℕ → ℕ → Move
marker token back = whitespace_after (Two (Enter token) (Leave token)) back

-- before a later part of a name, whose events are of the kind `token`: an identifier begins, in the state `inside`
abbrev pub part_begins : ℕ → ℕ → ℕ → ℕ → Move
part_begins b token inside site =
    when is_id_start b then eat inside (One (Enter token))
    else crash site no_note

-- the five states inside a name: one argument over the bytes that end it
--     identifier ::= identifier_start *identifier_part
abbrev pub in_a_name : ℕ → Bool → ℕ → Marks → ℕ → ℕ → ℕ → Move
in_a_name b ends same marks after site note =
    when ends then whitespace_here marks after
    else when is_id_cont b then eat same Nothing
    else crash site note

-- '<'; `token` is the kind of the tag
abbrev pub start : ℕ → ℕ → Move
start b token =
    when eqb b less_than then eat mdx_jsx_start_after (Three (Enter token) (Enter jsx_tag_marker) (Leave jsx_tag_marker))
    else retry nok Nothing

-- after '<'; constraint: markdown whitespace (`space_or_tab | eol`) is not allowed here, so that `1 < 3` is no tag
abbrev pub start_after : ℕ → Move
start_after b =
    when is_space_or_tab b then retry nok Nothing
    else when eqb b line_feed then retry nok Nothing
    else whitespace_here Nothing mdx_jsx_name_before

-- after the '/' of [closing]: *whitespace '>'
abbrev pub self_closing : ℕ → Move
self_closing b =
    when eqb b greater_than then retry mdx_jsx_tag_end Nothing
    else when eqb b slash then crash after_self_closing_slash comment_in_tag
    else crash after_self_closing_slash no_note

-- the '>' of a tag of the kind `token`. The state before has seen it: the Rust says `unreachable!` of any other byte
abbrev pub tag_end : ℕ → ℕ → Move
tag_end b token =
    when eqb b greater_than then eat done (Three (Enter jsx_tag_marker) (Leave jsx_tag_marker) (Leave token))
    else crash nowhere no_note

-- *whitespace, which ends in `back`
--     whitespace ::= es_whitespace
abbrev pub es_whitespace_start : ℕ → ℕ → Move
es_whitespace_start b back =
    when eqb b line_feed then eat mdx_jsx_es_whitespace_eol_after (Two (Enter line_ending) (Leave line_ending))
    else when whitespace_or_end b then retry mdx_jsx_es_whitespace_inside (One (Enter jsx_es_whitespace))
    else retry back Nothing

-- in white space; the page's end here is Nok
abbrev pub es_whitespace_inside : ℕ → ℕ → Move
es_whitespace_inside b back =
    when eqb b line_feed then retry mdx_jsx_es_whitespace_start (One (Exit jsx_es_whitespace))
    else when eqb b end_of_page then retry nok Nothing
    else when is_whitespace b then eat mdx_jsx_es_whitespace_inside Nothing
    else retry back (One (Exit jsx_es_whitespace))

-- after a line ending in white space; no line is lazy
abbrev pub es_whitespace_eol_after : Move
es_whitespace_eol_after = retry mdx_jsx_es_whitespace_start Nothing

-- `es_whitespace_start` retried after the `=` of a plain attribute is eaten: `current` is `None`, so a line feed is no line
-- ending here, and `kind_after_index` still looks at the byte after the `=`
abbrev pub es_whitespace_start_retried : ℕ → ℕ → Move
es_whitespace_start_retried b back =
    when whitespace_or_end b then retry mdx_jsx_es_whitespace_inside_retried (One (Enter jsx_es_whitespace))
    else retry back Nothing

-- `es_whitespace_inside` with `current` still `None`
abbrev pub es_whitespace_inside_retried : Move
es_whitespace_inside_retried = retry nok Nothing
