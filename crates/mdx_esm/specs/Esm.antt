-- The states of `mdx_esm.rs`, each under its Rust name, and the blank-line look-ahead.
--
--     mdx_esm ::= word *line *(eol *line)
--     word ::= 'e' 'x' 'p' 'o' 'r' 't' | 'i' 'm' 'p' 'o' 'r' 't'
--
-- docs/SCOPE.md, 'ESM': it needs column 1, a clear interrupt flag, a verdict source, the word, then a space. At the page end, or a
-- line ending followed by a blank line, it asks.
use Rattle.std.specs.Prelude.{ℕ, Bool, ◌&&◌, [], ◌∷◌, eqb}
use Rattle.base.specs.If.{when◌then◌else◌, among}
use Rattle.base.specs.Range.{within}
use Rattle.base.specs.Byte.{line_feed, space, small_a, small_e, small_i, small_z, end_of_page}
use Rattle.base.specs.Kind.{line_ending, esm, esm_data}
use Rattle.base.specs.State.{
  done,
  nok,
  verdict_error,
  verdict_eof,
  asking,
  mdx_esm_word,
  mdx_esm_inside,
  mdx_esm_line_start,
  mdx_esm_continuation_start,
  mdx_esm_blank_line_before,
  mdx_esm_blank_line,
  mdx_esm_at_end,
}
use Rattle.base.specs.Decide.{eat, retry, retry_with}
use Rattle.base.specs.declared.Mark.TheVariants.{Enter, Exit, Leave}
use Rattle.base.specs.declared.Marks.TheVariants.{Nothing, One, Two}
use Rattle.base.specs.declared.Effect.TheVariants.{Save, Restore, Last, Fault}
use Rattle.base.specs.declared.Move.{Move}
use Rattle.base.specs.declared.Verdict.{Verdict}
use Rattle.base.specs.declared.Verdict.TheVariants.{Fine, Unfinished, Wrong}
use Rattle.char_class.specs.Class.{is_space_or_tab}

-- the first letter of the word
abbrev pub begins : ℕ → Bool → Bool
begins b allowed = allowed && among (small_e ∷ small_i ∷ []) b

-- the start; `allowed` says that there is a verdict source, no interrupt, and column 1
abbrev pub start : ℕ → Bool → Move
start b allowed =
    when begins b allowed then eat mdx_esm_word (Two (Enter esm) (Enter esm_data))
    else retry nok Nothing

-- a lower-case letter, and the space after the word
abbrev pub in_word : ℕ → Bool
in_word b = within small_a small_z b

abbrev pub word_ends : ℕ → Bool → Bool
word_ends b is_word = is_word && eqb b space

-- in the word; `is_word` says that the bytes from the start up to this place are `export` or `import`
abbrev pub word : ℕ → Bool → Move
word b is_word =
    when in_word b then eat mdx_esm_word Nothing
    else when word_ends b is_word then eat mdx_esm_inside Nothing
    else retry nok Nothing

-- a line is over: its line ending, or the page's end
abbrev pub line_ends : ℕ → Bool
line_ends b = among (line_feed ∷ end_of_page ∷ []) b

-- *line: in a line
abbrev pub inside : ℕ → Move
inside b =
    when line_ends b then retry mdx_esm_line_start (One (Exit esm_data))
    else eat mdx_esm_inside Nothing

-- at the start of a line, or at a line ending, where the place is saved and the next line looked at
abbrev pub line_start : ℕ → Move
line_start b =
    when eqb b end_of_page then retry mdx_esm_at_end Nothing
    else when eqb b line_feed then retry_with mdx_esm_blank_line_before Nothing Save
    else eat mdx_esm_inside (One (Enter esm_data))

-- eol: the block goes on in the next line
abbrev pub continuation_start : Move
continuation_start = eat mdx_esm_line_start (Two (Enter line_ending) (Leave line_ending))

-- the look-ahead: the line ending. What it writes the Rust takes back
abbrev pub blank_line_before : Move
blank_line_before = eat mdx_esm_blank_line Nothing

-- the look-ahead: a line of spaces and tabs only is blank, and so is the page end. Either way the saved place is taken up
abbrev pub blank_line : ℕ → Move
blank_line b =
    when is_space_or_tab b then eat mdx_esm_blank_line Nothing
    else when line_ends b then retry_with mdx_esm_at_end Nothing Restore
    else retry_with mdx_esm_continuation_start Nothing Restore

-- at the end of the block, if the verdict says so
abbrev pub at_end : Move
at_end = retry asking Nothing

-- the crate's `exit` after a line ending stands where the tokenizer last began a line, and the look-ahead has begun one behind the
-- line ending at which it asks: so `MdxEsm` exits behind that line ending if a line ending stands before it (`after_line_feed`)
abbrev pub exits_behind : ℕ → Bool → Bool
exits_behind b after_line_feed = after_line_feed && eqb b line_feed

abbrev pub exits : ℕ → Bool → Move
exits b after_line_feed =
    when exits_behind b after_line_feed then retry done (One (Leave esm))
    else retry done (One (Exit esm))

-- unfinished goes on in the next line, or at the page end answers 9
abbrev pub unfinished : ℕ → ℕ → Move
unfinished b n =
    when eqb b end_of_page then retry_with verdict_eof Nothing (Last n)
    else retry_with mdx_esm_continuation_start Nothing (Last n)

-- the verdict on the block before this line ending, or before the page's end
abbrev pub verdict : Verdict → ℕ → Bool → ℕ → Move
verdict Fine b after_line_feed place = exits b after_line_feed
verdict (Unfinished n) b after_line_feed place = unfinished b n
verdict (Wrong n offset) b after_line_feed place = retry_with verdict_error Nothing (Fault n place)
