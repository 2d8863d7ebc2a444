-- The ranges of a tokenizer's fields, as docs/NUMBERS.md lists them. docs/SCOPE.md, 'The worker': 12 is given for "a state outside the
-- ranges docs/ lists (all that calls give are inside)".
use Rattle.std.specs.Prelude.{ℕ, Bool, true, ◌&&◌, ◌||◌, leb, eqb}
use Rattle.base.specs.If.{when◌then◌else◌}
use Rattle.base.specs.Page.{page_limit}
use Rattle.base.specs.Byte.{last_byte}
use Rattle.base.specs.Range.{within}
use Rattle.base.specs.State.{done, nok, not_ascii, full, asking, mdx_expression_start, mdx_jsx_attribute_value_quoted_start, mdx_jsx_attribute_value_expression_after, mdx_jsx_es_whitespace_inside_retried, mdx_esm_start, mdx_esm_verdict}
use Rattle.base.specs.declared.Verdict.{Verdict}
use Rattle.base.specs.declared.Verdict.TheVariants.{Fine, Unfinished, Wrong}
use Rattle.tokenizer.specs.declared.Job.{Job}
use Rattle.tokenizer.specs.declared.Regs.{Regs}
use Rattle.tokenizer.specs.declared.Tokenizer.{Tokenizer}
use Rattle.tokenizer.specs.Moved.{most_braces, longest_prefix}
use Rattle.tokenizer.specs.Decision.{text}

-- constructs
abbrev pub expression : ℕ
expression = 0

abbrev pub tag : ℕ
tag = 1

abbrev pub esm : ℕ
esm = 2

-- the number of a verdict is 1 to this
abbrev pub largest_number : ℕ
largest_number = 65535

-- where-numbers go up to 19, notes up to 4
abbrev pub last_site : ℕ
last_site = 19

abbrev pub last_note : ℕ
last_note = 4

unfoldable pub construct_listed : ℕ → Bool
construct_listed construct = leb construct esm

-- kinds: flow and text
unfoldable pub kind_listed : ℕ → Bool
kind_listed kind = leb kind text

unfoldable pub job_in_range : Job → Bool
job_in_range j = leb j.length page_limit && (leb j.start j.length && (construct_listed j.construct && kind_listed j.kind))

-- the states that a scan runs in, by its construct: an ESM block's, or those of expressions and tags
unfoldable pub runs_in : ℕ → ℕ → Bool
runs_in construct name =
    when eqb construct esm then within mdx_esm_start mdx_esm_verdict name
    else within mdx_expression_start mdx_jsx_es_whitespace_inside_retried name

-- the answers that end a scan once it has begun: 0, 1 and 5 to 10. No call gives a scan that rests at another number
unfoldable pub is_answer : ℕ → Bool
is_answer name = within done nok name || within not_ascii full name

-- it rests at an answer's number, or asks, or runs
unfoldable pub listed : ℕ → ℕ → Bool
listed construct name = is_answer name || (eqb name asking || runs_in construct name)

-- none, or a state that white space or an expression in a tag returns to
unfoldable pub is_return : ℕ → Bool
is_return name = eqb name 0 || within mdx_jsx_attribute_value_quoted_start mdx_jsx_attribute_value_expression_after name

-- the registers that are no places and no states
unfoldable pub numbers_in_range : Regs → Bool
numbers_in_range r =
    leb r.depth most_braces
    && (leb r.prefix longest_prefix
    && (leb r.quote last_byte
    && (leb r.last largest_number
    && (leb r.site last_site
    && leb r.note last_note))))

-- the places in a page of n bytes
unfoldable pub places_in_range : ℕ → Regs → Bool
places_in_range n r = leb r.saved n && (leb r.body n && leb r.joint n)

-- the registers of a scan over a page of n bytes
unfoldable pub regs_in_range : ℕ → Regs → Bool
regs_in_range n r = is_return r.back && (numbers_in_range r && places_in_range n r)

-- the number of a verdict is 1 to 65,535
unfoldable pub verdict_in_range : Verdict → Bool
verdict_in_range Fine = true
verdict_in_range (Unfinished n) = within 1 largest_number n
verdict_in_range (Wrong n offset) = within 1 largest_number n

unfoldable pub in_range : Tokenizer → Bool
in_range t =
    leb t.at t.job.length
    && (job_in_range t.job
    && (listed t.job.construct t.state
    && (regs_in_range t.job.length t.regs
    && verdict_in_range t.heard)))
