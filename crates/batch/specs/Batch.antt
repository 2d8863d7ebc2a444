-- A page's openings in one call: what the list and the event buffer are afterwards.
--
-- docs/SCOPE.md, 'A page's openings in one call': "The outcome is that of single calls made in list order, each with steps enough and the
-- event room the earlier ones left. Records past the first job answered 10 are left as lent. .. A list with anything but counting
-- expressions and counting tags answers 12, before any record is touched."
use Rattle.std.specs.Prelude.{ℕ, ◌+◌, ◌*◌, ◌%◌, Bool, true, false, ◌&&◌, List, [], ◌∷◌, ◌++◌, eqb, length, take, drop}
use Rattle.base.specs.If.{when◌then◌else◌}
use Rattle.base.specs.State.{done, full}
use Rattle.base.specs.Number.{bad_call}
use Rattle.events.specs.Words.{width}
use Rattle.tokenizer.specs.Ranges.{esm}
use Rattle.scan.specs.Call.{Left, numbers_listed, whole_of}
use Rattle.batch.specs.declared.Opening.{Opening}
use Rattle.batch.specs.declared.Filled.{Filled}
use Rattle.batch.specs.Record.{filled_of}

-- ---- what a list may ask for

-- an expression or a tag, of a listed kind, with listed flags and no verdict source
unfoldable pub counting : Opening → Bool
counting o =
    when eqb o.construct esm then false
    else when eqb (o.flags % 2) 1 then false
    else numbers_listed o.construct o.kind o.flags

unfoldable pub all_counting : List Opening → Bool
all_counting [] = true
all_counting (o ∷ os) = counting o && all_counting os

-- ---- what it comes to

-- the answer of the list, the records and the event words
pub record Batch : Type 0 where
  pub filled : Filled
  pub openings : List Opening
  pub words : List ℕ

abbrev pub batch : Filled → List Opening → List ℕ → Batch
batch f os words = record { filled = f; openings = os; words = words }

abbrev pub answered : ℕ → ℕ → ℕ → Filled
answered answer records events = record { answer = answer; records = records; events = events }

-- a record in front of those of the rest
abbrev pub behind : Opening → Batch → Batch
behind o b = batch b.filled (o ∷ b.openings) b.words

-- a record's single call, over words: with 8(n+1) steps
abbrev pub called : List ℕ → Opening → List ℕ → Left
called page o words = whole_of page 0 (length page) o.start o.construct o.kind o.flags words

-- the call over the words behind `used` events: the record that it fills, and all words as it leaves them
abbrev pub record_of : List ℕ → Opening → ℕ → List ℕ → Opening
record_of page o used words = filled_of o used (called page o (drop (used * width) words)).answer

abbrev pub words_of : List ℕ → Opening → ℕ → List ℕ → List ℕ
words_of page o used words = take (used * width) words ++ (called page o (drop (used * width) words)).words

-- the records that are left, behind so many that are filled and so many events: the first that is answered 10 is the last
unfoldable pub fill_from : List ℕ → ℕ → ℕ → List Opening → List ℕ → Batch
fill_from page records used [] words = batch (answered done records used) [] words
fill_from page records used (o ∷ os) words =
    let f = record_of page o used words in
    let after = words_of page o used words in
    behind f
    (when eqb f.answer full then batch (answered full (records + 1) (used + f.events)) os after
    else fill_from page (records + 1) (used + f.events) os after)

-- the whole list; 12, and nothing is touched, where something else is asked for
unfoldable pub batch_of : List ℕ → List Opening → List ℕ → Batch
batch_of page os words = when all_counting os then fill_from page 0 0 os words else batch (answered bad_call 0 0) os words
