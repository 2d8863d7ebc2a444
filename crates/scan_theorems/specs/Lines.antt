-- What is promised of lines and columns, for an auditor to read: the registers of every scan that calls gave are the page's lines, so that
-- each event, and each answer that names a place, carries the line and the column of its offset by the definition (crate `page`,
-- Line.antt). The theorems are in proofs/Lined.antt, under the names that stand beside them here.
use Rattle.std.specs.Prelude.{ℕ, ◌+◌, ◌≤◌, ◌<◌, ◌≡◌, true, List, [], ◌∷◌, eqb, length, get_or}
use Rattle.base.specs.Byte.{tab}
use Rattle.base.specs.If.{when◌then◌else◌, among}
use Rattle.base.specs.Page.{byte_at}
use Rattle.base.specs.Tab.{columns_of}
use Rattle.base.specs.Number as number
use Rattle.base.specs.State as state
use Rattle.page.specs.Line.{line_of, column_of, line_at}
use Rattle.page.specs.Page.{page_of}
use Rattle.events.specs.declared.Event.{Event}
use Rattle.scan.specs.declared.Scan.{Scan}
use Rattle.scan.specs.Answer.{Said, answer_of}
use Rattle.scan.specs.Call.{scan_in_range, started, begin_of, fresh_scan}
use Rattle.scan.specs.Scan.{run_events}
use Rattle.scan.specs.Statement.{Call, run, give, scan_after}
use Rattle.scan.specs.Alone.{events_alone, run_alone}
use Rattle.scan_theorems.specs.Statement.{OfEveryScan}

-- ---- the registers

-- the scan is one of the page, in range, and its registers are the page's lines and columns, each of its place: where the scan stands, where a
-- look-ahead goes back to, and where a verdict found fault; and it stands inside a tab only at one
pub record OnLines (page : List ℕ) (s : Scan) : Type 0 where
  pub range : scan_in_range s ≡ true
  pub size : length page ≡ s.tokenizer.job.length
  pub inside : s.tokenizer.regs.fault ≤ length page + 1
  pub line : s.lines.line ≡ line_at page s.tokenizer.at
  pub tabbed : 0 < columns_of s.lines.tab → byte_at page s.tokenizer.at ≡ tab
  pub kept : s.lines.kept ≡ line_at page s.tokenizer.regs.saved
  pub fault : s.lines.fault ≡ line_at page s.tokenizer.regs.fault

-- each run of the calls is over this page
abbrev pub OverPage : List ℕ → List Call → Type 0
OverPage page [] = Unit {0}
OverPage page (run over k ∷ calls) = (over ≡ page) × OverPage page calls
OverPage page (give v ∷ calls) = OverPage page calls

-- `lines_are_the_pages`: a new scan has them, and so has every scan that calls give from there, whatever they answer, if the runs are lent
-- the page that was admitted
abbrev pub LinesKept : Type 0
LinesKept =
    (bytes : List ℕ) (at n start construct kind flags words : ℕ) (s : Scan)
    → begin_of bytes at n start construct kind flags words ≡ started s
    → (calls : List Call) (lent : List ℕ)
    → OverPage (page_of bytes at n) calls
    → OnLines (page_of bytes at n) (scan_after calls s lent)

-- ---- what follows for events and answers

-- an event carries the line and the column of its offset, and, if that is a tab, stands so many columns inside it as it says
pub record EventPlaced (page : List ℕ) (e : Event) : Type 0 where
  pub line : e.line ≡ line_of page e.offset
  pub column : e.column ≡ column_of page e.offset + columns_of e.tab
  pub tabbed : 0 < columns_of e.tab → byte_at page e.offset ≡ tab

abbrev pub EachPlaced : List ℕ → List Event → Type 0
EachPlaced page [] = Unit {0}
EachPlaced page (e ∷ es) = EventPlaced page e × EachPlaced page es

-- the answers that name a place (4 is answered before there is a scan: crate `page`, `text_is`)
abbrev pub place_named : List ℕ
place_named =
    state.not_ascii
    ∷ state.eof
    ∷ state.unexpected
    ∷ state.verdict_error
    ∷ state.verdict_eof
    ∷ state.full
    ∷ state.asking
    ∷ number.paused
    ∷ []

-- how far inside a tab that place is: where a scan stands as far as the scan is, and where a verdict found fault nowhere
abbrev pub columns_passed : Scan → Said → ℕ
columns_passed s a = when eqb a.number state.verdict_error then 0 else columns_of s.lines.tab

-- such an answer of a scan carries the place first, then its line and its column
abbrev pub AnswerPlaced : List ℕ → Scan → Said → Type 0
AnswerPlaced page s a =
    among place_named a.number ≡ true
    → (get_or a.values 1 0 ≡ line_of page (get_or a.values 0 0)) × (get_or a.values 2 0 ≡ column_of page (get_or a.values 0 0) + columns_passed s a)

-- `events_carry_their_lines`, `answers_carry_their_lines`: of every run of a scan whose registers are the page's lines
abbrev pub EventsPlaced : Type 0
EventsPlaced = (page : List ℕ) (k : ℕ) (s : Scan) → OnLines page s → EachPlaced page (run_events page k s)

abbrev pub AnswersPlaced : Type 0
AnswersPlaced = (page : List ℕ) (s : Scan) → OnLines page s → AnswerPlaced page s (answer_of s)

-- `a_scan_carries_its_lines`: and so of every scan from its start
abbrev pub ScansPlaced : Type 0
ScansPlaced =
    OfEveryScan λ page j k vs.
    let s = run_alone page k vs (fresh_scan page j) in
    EachPlaced page (events_alone page k vs (fresh_scan page j)) × AnswerPlaced page s (answer_of s)
