-- The body three ways, for an auditor to read: as `collect` hands it over, as the page's lines say it, and as the events say it. For every scan
-- that calls gave they are the same. A verdict that says error is placed by it.
use Rattle.std.specs.Prelude.{ℕ, ◌+◌, ◌-◌, ◌<◌, ◌≡◌, true, List, [], ◌∷◌, eqb, length}
use Rattle.base.specs.If.{when◌then◌else◌}
use Rattle.base.specs.Range.{within}
use Rattle.base.specs.State.{asking}
use Rattle.base.specs.declared.Verdict.TheVariants.{Wrong}
use Rattle.body_places.specs.Body.{Cell, bytes_of, places_of, expression_cells, part_cells, place_of}
use Rattle.events.specs.declared.Event.{Event}
use Rattle.events.specs.Words.{events_in}
use Rattle.page.specs.Line.{line_of, column_of}
use Rattle.page.specs.Page.{page_of}
use Rattle.tokenizer.specs.Ranges.{esm, largest_number}
use Rattle.scan.specs.declared.Scan.{Scan}
use Rattle.scan.specs.Answer.{Said, said}
use Rattle.scan.specs.Call.{started, begin_of, run_of, give_of}
use Rattle.scan.specs.Statement.{Call, scan_after, words_after, events_after}
use Rattle.scan_theorems.specs.Lines.{OverPage}
use Rattle.mdx_collect.specs.Collect.{asked, body_of}
use Rattle.body_theorems.specs.Events.{event_cells, event_body}

-- ---- the body by the page's lines

-- docs/SCOPE.md, 'Body': "The data and line endings in order, without line prefixes." 'Tabs': after a line ending at most two columns of spaces
-- or of a tab are a line prefix, not body, and the rest of that tab is spaces. A block of ESM has no line prefixes.
abbrev pub line_cells : List ℕ → Scan → List Cell
line_cells page s =
    when eqb s.tokenizer.job.construct esm then part_cells page s.tokenizer.job.start (s.tokenizer.at - s.tokenizer.job.start)
    else expression_cells page s.tokenizer.regs.body s.tokenizer.at

abbrev pub line_body : List ℕ → Scan → List ℕ
line_body page s = bytes_of (line_cells page s)

-- ---- the promise

-- A scan begins on a page, any calls are made over that page, whatever they answer, and it asks: what holds of the page, the scan, its event words
-- and its events.
abbrev pub OfEveryAskingScan : (List ℕ → Scan → List ℕ → List Event → Type 0) → Type 0
OfEveryAskingScan P =
    (bytes : List ℕ) (at n start construct kind flags : ℕ) (lent : List ℕ) (s : Scan)
    → begin_of bytes at n start construct kind flags (length lent) ≡ started s
    → (calls : List Call)
    → let page = page_of bytes at n in
    OverPage page calls
    → asked (scan_after calls s lent) (length page) ≡ true
    → P page (scan_after calls s lent) (words_after calls s lent) (events_after calls s lent)

-- what is handed over is what the lines say, and what the events say; and these are the events in its words
abbrev pub OneBody : List ℕ → Scan → List ℕ → List Event → Type 0
OneBody page s words events = (body_of page s ≡ line_body page s) × (body_of page s ≡ event_body page events) × (events_in words 0 s.used ≡ events)

-- ---- a verdict that says error

-- what the scan answers to a run, where that is the next verdict that it hears
abbrev pub error_answer : List ℕ → Scan → List ℕ → ℕ → ℕ → ℕ → Said
error_answer page s words number r allowance = (run_of page allowance (give_of s (Wrong number r)).scan words).answer

-- docs/SCOPE.md, 'Tabs': "A verdict error at body offset r is placed at the first offset of r's run plus the distance of r from that run's first body
-- index; for r at or past the length, at the byte that asked." The runs are those of the events.
abbrev pub error_place : List ℕ → Scan → List Event → ℕ → ℕ
error_place page s events r = place_of (places_of (event_cells page events)) r s.tokenizer.at

-- it answers 8 with that place, its line and column, the verdict's number, its event count and one step more, whatever the allowance
abbrev pub ErrorPlaced : List ℕ → Scan → List ℕ → List Event → Type 0
ErrorPlaced page s words events =
    (number r allowance : ℕ) → s.tokenizer.state ≡ asking → within 1 largest_number number ≡ true → 0 < allowance
    → let place = error_place page s events r in
    error_answer page s words number r allowance ≡ said 8 (place ∷ line_of page place ∷ column_of page place ∷ number ∷ s.used ∷ (s.steps + 1) ∷ [])
