-- What the parts of the crossing do. No promise to a user of the library cites these.
use Rattle.std.specs.Prelude.{ℕ, eqb}
use Rattle.base.specs.If.{when◌then◌else◌}
use Rattle.base.specs.Number.{bad_call}
use Rattle.page.specs.declared.line.Spot.{Spot}
use Rattle.scan.specs.declared.Tally.{Tally}
use Rattle.tokenizer.specs.declared.Job.{Job}
use Rattle.tokenizer.specs.declared.Regs.{Regs}
use Rattle.scan.specs.declared.lines.Lines.{Lines}
use Rattle.crossing.specs.declared.AnswerNumbers.{AnswerNumbers}
use Rattle.crossing.specs.declared.BodyNumbers.{BodyNumbers}
use Rattle.crossing.specs.declared.ScanNumbers.{ScanNumbers}
use Rattle.crossing.specs.Scans.{scan_in}

abbrev pub carried_of : ℕ → Spot → ℕ → ℕ → ℕ → AnswerNumbers
carried_of number p site note verdict =
    record {
      place = p.place;
      line = p.line;
      column = p.column;
      events = 0;
      steps = 0;
      verdict = verdict;
      number = number;
      site = site;
      note = note;
    }

abbrev pub placed_of : ℕ → ℕ → AnswerNumbers
placed_of number place = carried_of number (record { place = place; line = 0; column = 0 }) 0 0 0

abbrev pub bare_of : ℕ → AnswerNumbers
bare_of number = placed_of number 0

abbrev pub tallied_of : AnswerNumbers → Tally → AnswerNumbers
tallied_of a t =
    record {
      place = a.place;
      line = a.line;
      column = a.column;
      events = t.events;
      steps = t.steps;
      verdict = a.verdict;
      number = a.number;
      site = a.site;
      note = a.note;
    }

-- the parts of a scan
unfoldable pub job_in : ScanNumbers → Job
job_in c = (scan_in c).tokenizer.job

unfoldable pub regs_in : ScanNumbers → Regs
regs_in c = (scan_in c).tokenizer.regs

unfoldable pub lines_in : ScanNumbers → Lines
lines_in c = (scan_in c).lines

-- an answer that says nothing of a body
abbrev pub bodiless_of : ℕ → ℕ → BodyNumbers
bodiless_of number kind = record { at = 0; length = 0; number = number; kind = when eqb number bad_call then 0 else kind }
