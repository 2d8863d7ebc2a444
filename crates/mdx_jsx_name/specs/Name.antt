-- The states of a tag's name in `partial_mdx_jsx.rs`, each under its Rust name.
--
--     mdx_jsx ::= '<' [closing] [*whitespace name [attributes_after_identifier] [closing]] *whitespace '>'
--     name ::= identifier [local | members]
--
-- docs/SCOPE.md, 'Tag': member names refuse `:`, local names refuse `.` and `:`.
use Rattle.std.specs.Prelude.{ℕ, Bool, ◌||◌, eqb}
use Rattle.base.specs.If.{when◌then◌else◌}
use Rattle.base.specs.Range.{within}
use Rattle.base.specs.Byte.{exclamation_mark, plus_sign, dot, slash, digit9, colon, greater_than, at_sign}
use Rattle.base.specs.Kind.{
  jsx_tag_closing_marker,
  jsx_tag_name,
  jsx_tag_name_primary,
  jsx_tag_name_member_marker,
  jsx_tag_name_prefix_marker,
  jsx_tag_name_member,
  jsx_tag_name_local,
}
use Rattle.base.specs.State.{
  mdx_jsx_closing_tag_name_before,
  mdx_jsx_tag_end,
  mdx_jsx_primary_name,
  mdx_jsx_primary_name_after,
  mdx_jsx_member_name_before,
  mdx_jsx_member_name,
  mdx_jsx_member_name_after,
  mdx_jsx_local_name_before,
  mdx_jsx_local_name,
  mdx_jsx_local_name_after,
  mdx_jsx_attribute_before,
}
use Rattle.base.specs.Decide.{eat, retry}
use Rattle.base.specs.declared.Mark.TheVariants.{Enter, Exit, Leave}
use Rattle.base.specs.declared.Marks.TheVariants.{Nothing, One, Two}
use Rattle.base.specs.declared.Move.{Move}
use Rattle.char_class.specs.Class.{is_id_start}
use Rattle.mdx_jsx.specs.Jsx.{
  before_name,
  in_name,
  after_name,
  before_member_name,
  in_member_name,
  after_member_name,
  before_local_name,
  in_local_name,
  after_local_name,
  no_note,
  comment_in_mdx,
  comment_in_tag,
  link_in_mdx,
  crash,
  whitespace_or_end,
  tag_goes_on,
  name_followed,
  whitespace_after,
  in_a_name,
}

-- '@' in a name may be meant for a link
abbrev pub link_note : ℕ → ℕ
link_note b = when eqb b at_sign then link_in_mdx else no_note

-- a name starts
abbrev pub name_starts : Move
name_starts = eat mdx_jsx_primary_name (Two (Enter jsx_tag_name) (Enter jsx_tag_name_primary))

-- before name, closing slash, or the end of a fragment's tag
--     '<' [closing] [*whitespace name ..] *whitespace '>'
abbrev pub name_before : ℕ → Move
name_before b =
    when eqb b slash then whitespace_after (Two (Enter jsx_tag_closing_marker) (Leave jsx_tag_closing_marker)) mdx_jsx_closing_tag_name_before
    else when eqb b greater_than then retry mdx_jsx_tag_end Nothing
    else when is_id_start b then name_starts
    else when eqb b exclamation_mark then crash before_name comment_in_mdx
    else crash before_name no_note

-- after the '/' of a closing tag. The Rust's `b'*' | b'/'` is a bitwise or, equal to `/`
abbrev pub closing_tag_name_before : ℕ → Move
closing_tag_name_before b =
    when eqb b greater_than then retry mdx_jsx_tag_end Nothing
    else when is_id_start b then name_starts
    else when eqb b slash then crash before_name comment_in_tag
    else crash before_name no_note

-- what ends a primary name: white space, `.`, `:`, and what goes on in the tag
abbrev pub primary_name_ends : ℕ → Bool
primary_name_ends b = whitespace_or_end b || (eqb b dot || (eqb b colon || tag_goes_on b))

-- in the first identifier of a name
abbrev pub primary_name : ℕ → Move
primary_name b = in_a_name b (primary_name_ends b) mdx_jsx_primary_name (One (Exit jsx_tag_name_primary)) mdx_jsx_primary_name_after in_name (link_note b)

-- the name is over
abbrev pub name_ends : Move
name_ends = retry mdx_jsx_attribute_before (One (Exit jsx_tag_name))

-- member ::= *whitespace '.' *whitespace identifier
abbrev pub member_starts : Move
member_starts = whitespace_after (Two (Enter jsx_tag_name_member_marker) (Leave jsx_tag_name_member_marker)) mdx_jsx_member_name_before

-- local ::= *whitespace ':' *whitespace identifier
abbrev pub local_starts : Move
local_starts = whitespace_after (Two (Enter jsx_tag_name_prefix_marker) (Leave jsx_tag_name_prefix_marker)) mdx_jsx_local_name_before

-- after the first identifier: [local | members]
abbrev pub primary_name_after : ℕ → Move
primary_name_after b =
    when eqb b dot then member_starts
    else when eqb b colon then local_starts
    else when name_followed b then name_ends
    else crash after_name no_note

-- after the '.' of a member
abbrev pub member_name_before : ℕ → Move
member_name_before b =
    when is_id_start b then eat mdx_jsx_member_name (One (Enter jsx_tag_name_member))
    else crash before_member_name no_note

-- what ends a member name: no `:`
abbrev pub member_name_ends : ℕ → Bool
member_name_ends b = whitespace_or_end b || (eqb b dot || tag_goes_on b)

-- in a member name
abbrev pub member_name : ℕ → Move
member_name b = in_a_name b (member_name_ends b) mdx_jsx_member_name (One (Exit jsx_tag_name_member)) mdx_jsx_member_name_after in_member_name (link_note b)

-- members ::= member *member
abbrev pub member_name_after : ℕ → Move
member_name_after b =
    when eqb b dot then member_starts
    else when name_followed b then name_ends
    else crash after_member_name no_note

-- `+` and `/` to `9` after `<a:` may be meant for a link
abbrev pub link_like : ℕ → Bool
link_like b = eqb b plus_sign || within slash digit9 b

-- after the ':' of a local name
abbrev pub local_name_before : ℕ → Move
local_name_before b =
    when is_id_start b then eat mdx_jsx_local_name (One (Enter jsx_tag_name_local))
    else when link_like b then crash before_local_name link_in_mdx
    else crash before_local_name no_note

-- what ends a local name: no `.` and no `:`
abbrev pub local_name_ends : ℕ → Bool
local_name_ends b = whitespace_or_end b || tag_goes_on b

-- in a local name
abbrev pub local_name : ℕ → Move
local_name b = in_a_name b (local_name_ends b) mdx_jsx_local_name (One (Exit jsx_tag_name_local)) mdx_jsx_local_name_after in_local_name no_note

-- after a local name
abbrev pub local_name_after : ℕ → Move
local_name_after b = when name_followed b then name_ends else crash after_local_name no_note
