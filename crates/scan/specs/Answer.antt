-- The answer of a scan: the scope's answer table, each row's number and the values that it carries.
--
-- docs/SCOPE.md, 'Language form for each place': "For an answer that is an enum, a definition gives this paper's number and values for each of
-- its cases, and the promises use that definition." It is `said_by`; what a call answers is said in numbers and values, and the promises
-- compare the two.
use Rattle.std.specs.Prelude.{ℕ, List, [], ◌∷◌, leb}
use Rattle.base.specs.If.{when◌then◌else◌}
use Rattle.base.specs.Table.{find}
use Rattle.base.specs.State as state
use Rattle.base.specs.State.{first_running}
use Rattle.base.specs.Number as number
use Rattle.base.specs.declared.InTab.TheVariants.{Outside}
use Rattle.page.specs.declared.Fault.{Fault}
use Rattle.page.specs.declared.Fault.TheVariants as fault
use Rattle.page.specs.declared.line.Spot.{Spot}
use Rattle.scan.specs.declared.Tally.{Tally}
use Rattle.scan.specs.declared.Answer.{Answer}
use Rattle.scan.specs.declared.Answer.TheVariants.{
  Done,
  Nok,
  TooLong,
  BadStart,
  BadText,
  NotAscii,
  Eof,
  Unexpected,
  VerdictError,
  VerdictEof,
  Full,
  BadCall,
  Asking,
  Paused,
  Kept,
}
use Rattle.scan.specs.declared.Scan.{Scan}
use Rattle.scan.specs.Lines.{spot_in}

-- an answer's number, and the values that it carries, in the table's order, then event count and steps where it carries them
pub record Said : Type 0 where
  pub number : ℕ
  pub values : List ℕ

abbrev pub said : ℕ → List ℕ → Said
said number values = record { number = number; values = values }

-- what a scan has made, and a place with its line and column, as an answer's values
abbrev pub made : Tally → List ℕ
made t = t.events ∷ t.steps ∷ []

abbrev pub placed : Spot → List ℕ → List ℕ
placed p rest = p.place ∷ p.line ∷ p.column ∷ rest

-- what each case of the enum says
abbrev pub said_by : Answer → Said
said_by (Done end t) = said 0 (end ∷ made t)
said_by (Nok t) = said 1 (made t)
said_by TooLong = said 2 []
said_by BadStart = said 3 []
said_by (BadText p) = said 4 (placed p [])
said_by (NotAscii p t) = said 5 (placed p (made t))
said_by (Eof p site t) = said 6 (placed p (site ∷ made t))
said_by (Unexpected p site note t) = said 7 (placed p (site ∷ note ∷ made t))
said_by (VerdictError p number t) = said 8 (placed p (number ∷ made t))
said_by (VerdictEof p number t) = said 9 (placed p (number ∷ made t))
said_by (Full p t) = said 10 (placed p (made t))
said_by BadCall = said 12 []
said_by (Asking p t) = said 31 (placed p (made t))
said_by (Paused p t) = said 32 (placed p (made t))
said_by Kept = said 33 []

-- ---- what a call answers

-- 12
abbrev pub refused : Said
refused = said number.bad_call []

-- 2, 3 and 4
abbrev pub refused_for : Fault → Said
refused_for fault.TooLong = said number.too_long []
refused_for fault.BadStart = said number.bad_start []
refused_for (fault.BadText p) = said number.bad_text (placed p [])

abbrev pub tally_of : Scan → Tally
tally_of s = record { events = s.used; steps = s.steps }

-- the scan's place, and where a verdict found fault
abbrev pub here : Scan → Spot
here s = spot_in s.lines.line s.lines.tab s.tokenizer.at

abbrev pub at_fault : Scan → Spot
at_fault s = spot_in s.lines.fault Outside s.tokenizer.regs.fault

-- where a scan rests, by the number of its state, which is the answer's: at the construct's end, at no construct, at a question
abbrev pub end_answers : Scan → List (ℕ × Said)
end_answers s =
    (state.done, said state.done (s.tokenizer.at ∷ made (tally_of s)))
    ∷ (state.nok, said state.nok (made (tally_of s)))
    ∷ (state.asking, said state.asking (placed (here s) (made (tally_of s))))
    ∷ []

-- at a byte of the page, its end, or the end of the event buffer
abbrev pub page_answers : Scan → List (ℕ × Said)
page_answers s =
    let regs = s.tokenizer.regs in
    (state.not_ascii, said state.not_ascii (placed (here s) (made (tally_of s))))
    ∷ (state.eof, said state.eof (placed (here s) (regs.site ∷ made (tally_of s))))
    ∷ (state.unexpected, said state.unexpected (placed (here s) (regs.site ∷ regs.note ∷ made (tally_of s))))
    ∷ (state.full, said state.full (placed (here s) (made (tally_of s))))
    ∷ []

-- at a verdict
abbrev pub verdict_answers : Scan → List (ℕ × Said)
verdict_answers s =
    let last = s.tokenizer.regs.last in
    (state.verdict_error, said state.verdict_error (placed (at_fault s) (last ∷ made (tally_of s))))
    ∷ (state.verdict_eof, said state.verdict_eof (placed (here s) (last ∷ made (tally_of s))))
    ∷ []

-- no scan rests at another number
unfoldable pub verdict_refusal : Scan → Said
verdict_refusal s = find s.tokenizer.state (verdict_answers s) refused

unfoldable pub refusal : Scan → Said
refusal s = find s.tokenizer.state (page_answers s) (verdict_refusal s)

-- the answer of a scan as it stands: one that neither asks nor has ended is paused
unfoldable pub answer_of : Scan → Said
answer_of s =
    when leb first_running s.tokenizer.state then said number.paused (placed (here s) (made (tally_of s)))
    else find s.tokenizer.state (end_answers s) (refusal s)
