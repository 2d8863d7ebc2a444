-- The states of `partial_mdx_expression.rs`, each under its Rust name: a byte in, a decision out.
--
--     mdx_expression ::= '{' *(expression_text | expression) '}'
--     expression_text ::= char - '{' - '}'
--
-- docs/SCOPE.md, 'Expression, counting' and 'Expression, with verdicts'. Counting is the Rust with no `mdx_expression_parse`.
use Rattle.std.specs.Prelude.{ℕ, Bool, ◌||◌, ◌&&◌, ltb, eqb}
use Rattle.base.specs.If.{when◌then◌else◌}
use Rattle.base.specs.Byte.{tab, line_feed, space, left_brace, right_brace, end_of_page}
use Rattle.base.specs.Kind.{expression_marker, line_ending, expression_data, line_prefix}
use Rattle.base.specs.State.{nok, eof, verdict_error, verdict_eof, asking, mdx_expression_before, mdx_expression_inside, mdx_expression_eol_after, mdx_expression_prefix}
use Rattle.base.specs.Decide.{eat, eat_with, retry, retry_with, refuse}
use Rattle.base.specs.declared.Mark.TheVariants.{Enter, Exit, Leave}
use Rattle.base.specs.declared.Marks.TheVariants.{Nothing, One, Two, Three}
use Rattle.base.specs.declared.Effect.TheVariants.{Deeper, Shallower, Open, PrefixBegins, PrefixGoesOn, PrefixEnds, PrefixInTab, Last, Fault}
use Rattle.base.specs.declared.InTab.{InTab}
use Rattle.base.specs.declared.InTab.TheVariants.{Past1, Past2}
use Rattle.base.specs.declared.Move.{Move}
use Rattle.base.specs.declared.Verdict.{Verdict}
use Rattle.base.specs.declared.Verdict.TheVariants.{Fine, Unfinished, Wrong}
use Rattle.char_class.specs.Class.{is_space_or_tab}

-- where-number 19: in expression
abbrev pub in_expression : ℕ
in_expression = 19

-- a line prefix has at most two columns
abbrev pub prefix_size : ℕ
prefix_size = 2

-- `}` at depth zero
abbrev pub closes : ℕ → ℕ → Bool
closes b depth = eqb b right_brace && eqb depth 0

-- what ends a run of data: the page's end, a line ending, a brace that closes
abbrev pub stops : ℕ → ℕ → Bool
stops b depth = eqb b end_of_page || (eqb b line_feed || closes b depth)

-- the closing brace of an expression whose events are of the kind `token`; `back` is where it returns to, `done` if it stands alone
abbrev pub close : ℕ → ℕ → Move
close token back = eat back (Three (Enter expression_marker) (Leave expression_marker) (Leave token))

-- `{`
abbrev pub start : ℕ → ℕ → Move
start b token =
    when eqb b left_brace then eat_with mdx_expression_before (Three (Enter token) (Enter expression_marker) (Leave expression_marker)) Open
    else retry nok Nothing

-- *(expression_text | expression), and the `}` that closes. `last` is the number of the last unfinished verdict, 0 if none stands
abbrev pub before : ℕ → ℕ → Bool → ℕ → ℕ → ℕ → Move
before b depth asks last token back =
    when eqb b end_of_page then (when eqb last 0 then refuse eof in_expression 0 else retry verdict_eof Nothing)
    else when eqb b line_feed then eat mdx_expression_eol_after (Two (Enter line_ending) (Leave line_ending))
    else when closes b depth then (when asks then retry asking Nothing else close token back)
    else retry mdx_expression_inside (One (Enter expression_data))

-- in data. With verdicts, `{` is not counted
abbrev pub inside : ℕ → ℕ → Bool → Move
inside b depth asks =
    when stops b depth then retry mdx_expression_before (One (Exit expression_data))
    else when eqb b left_brace then (when asks then eat mdx_expression_inside Nothing else eat_with mdx_expression_inside Nothing Deeper)
    else when eqb b right_brace then eat_with mdx_expression_inside Nothing Shallower
    else eat mdx_expression_inside Nothing

-- after a line ending; no line is lazy
abbrev pub eol_after : ℕ → Move
eol_after b =
    when is_space_or_tab b then retry_with mdx_expression_prefix (One (Enter line_prefix)) PrefixBegins
    else retry mdx_expression_before Nothing

-- a space is one column of a line prefix, `size` of whose columns are passed
abbrev pub prefix_goes_on : ℕ → ℕ → Bool
prefix_goes_on b size = ltb size prefix_size && eqb b space

-- A line begins in column 1, so that a tab there reaches column 5, and one behind a space too: the prefix ends inside it. docs/SCOPE.md, 'Tabs'
abbrev pub prefix_in_tab : ℕ → ℕ → Bool
prefix_in_tab b size = ltb size prefix_size && eqb b tab

-- of such a tab the prefix takes the columns that it has left
abbrev pub taken : ℕ → InTab
taken size = when eqb size 0 then Past2 else Past1

-- the Rust runs `prefix` for each column; here a tab is one step in each state that it is met in
abbrev pub prefix : ℕ → ℕ → Move
prefix b size =
    when prefix_goes_on b size then eat_with mdx_expression_prefix Nothing PrefixGoesOn
    else when prefix_in_tab b size then retry_with mdx_expression_prefix Nothing (PrefixInTab (taken size))
    else retry_with mdx_expression_before (One (Exit line_prefix)) PrefixEnds

-- the verdict on the body before this `}`: Ok closes; unfinished takes the `}` as data; error answers at `place`
abbrev pub verdict : Verdict → ℕ → ℕ → ℕ → Move
verdict Fine place token back = close token back
verdict (Unfinished n) place token back = eat_with mdx_expression_inside (One (Enter expression_data)) (Last n)
verdict (Wrong n offset) place token back = retry_with verdict_error Nothing (Fault n place)
