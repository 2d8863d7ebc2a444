-- Scans and verdicts as numbers, and back.
--
-- docs/SCOPE.md, 'From other languages': "A state is a struct of numbers, each as wide as what it stands for; a number that stands for no case of
-- what it stands for is answered 12, and the state is handed back as it was."
use Rattle.std.specs.Prelude.{ℕ, Bool, ◌&&◌, leb, eqb}
use Rattle.base.specs.If.{when◌then◌else◌}
use Rattle.base.specs.Tab.{columns_of, in_tab}
use Rattle.base.specs.declared.InTab.{InTab}
use Rattle.base.specs.declared.Verdict.{Verdict}
use Rattle.base.specs.declared.Verdict.TheVariants.{Fine, Unfinished, Wrong}
use Rattle.scan.specs.declared.Scan.{Scan}
use Rattle.scan.specs.Answer.{Said, refused}
use Rattle.scan.specs.Call.{job_of, all_flags}
use Rattle.crossing.specs.declared.ScanNumbers.{ScanNumbers}
use Rattle.crossing.specs.declared.RanNumbers.{RanNumbers}
use Rattle.crossing.specs.declared.scans.Heard.{Heard}
use Rattle.crossing.specs.Answers.{answer_numbers}

-- ---- verdicts

-- the cases: Ok, unfinished, error
abbrev pub fine : ℕ
fine = 0

abbrev pub unfinished : ℕ
unfinished = 1

abbrev pub wrong : ℕ
wrong = 2

abbrev pub verdict_listed : ℕ → Bool
verdict_listed v = leb v wrong

-- the verdict of a case, with its number and its offset in the body
abbrev pub verdict_in : ℕ → ℕ → ℕ → Verdict
verdict_in v n offset = when eqb v fine then Fine else when eqb v unfinished then Unfinished n else Wrong n offset

abbrev heard : ℕ → ℕ → ℕ → Heard
heard v n offset = record { offset = offset; number = n; verdict = v }

abbrev pub verdict_out : Verdict → Heard
verdict_out Fine = heard fine 0 0
verdict_out (Unfinished n) = heard unfinished n 0
verdict_out (Wrong n offset) = heard wrong n offset

-- ---- scans

-- flags, as at the beginning of a scan: 1 for a verdict source, 2 for an interrupt, summed
abbrev pub flags_out : Bool → Bool → ℕ
flags_out asks interrupt = when asks then (when interrupt then 3 else 1) else when interrupt then 2 else 0

-- the columns passed of a tab: 0 to 3
abbrev pub most_columns : ℕ
most_columns = 3

abbrev pub tab_in : ℕ → InTab
tab_in columns = in_tab columns

-- a verdict that is kept: what it does not have is 0
abbrev pub heard_listed : ℕ → ℕ → ℕ → Bool
heard_listed v n offset =
    when eqb v fine then eqb n 0 && eqb offset 0
    else when eqb v unfinished then eqb offset 0
    else eqb v wrong

-- the numbers that stand for a case of something stand for one
unfoldable pub scan_listed : ScanNumbers → Bool
scan_listed c = leb c.flags all_flags && (leb c.tab most_columns && heard_listed c.heard c.heard_number c.heard_offset)

-- the scan that numbers stand for
unfoldable pub scan_in : ScanNumbers → Scan
scan_in c =
    record {
      tokenizer = record {
        job = job_of c.construct c.kind c.flags c.length c.start c.words;
        state = c.state;
        at = c.at;
        regs = record {
          saved = c.saved;
          body = c.body;
          joint = c.joint;
          fault = c.fault;
          depth = c.depth;
          last = c.last;
          back = c.back;
          prefix = c.prefix;
          site = c.site;
          note = c.note;
          quote = c.quote;
        };
        heard = verdict_in c.heard c.heard_number c.heard_offset;
      };
      lines = record {
        line = record { number = c.line; column = c.column };
        kept = record { number = c.kept_line; column = c.kept_column };
        fault = record { number = c.fault_line; column = c.fault_column };
        tab = tab_in c.tab;
      };
      used = c.used;
      steps = c.steps;
    }

-- the numbers that stand for a scan
unfoldable pub scan_out : Scan → ScanNumbers
scan_out s =
    let t = s.tokenizer in
    let h = verdict_out t.heard in
    record {
      length = t.job.length;
      start = t.job.start;
      words = t.job.words;
      at = t.at;
      saved = t.regs.saved;
      body = t.regs.body;
      joint = t.regs.joint;
      fault = t.regs.fault;
      line = s.lines.line.number;
      column = s.lines.line.column;
      kept_line = s.lines.kept.number;
      kept_column = s.lines.kept.column;
      fault_line = s.lines.fault.number;
      fault_column = s.lines.fault.column;
      used = s.used;
      steps = s.steps;
      heard_offset = h.offset;
      depth = t.regs.depth;
      last = t.regs.last;
      heard_number = h.number;
      quote = t.regs.quote;
      construct = t.job.construct;
      kind = t.job.kind;
      flags = flags_out t.job.asks t.job.interrupt;
      state = t.state;
      back = t.regs.back;
      prefix = t.regs.prefix;
      site = t.regs.site;
      note = t.regs.note;
      tab = columns_of s.lines.tab;
      heard = h.verdict;
    }

-- ---- what a call on a scan hands back

abbrev pub ran_out : Scan → Said → RanNumbers
ran_out s answer = record { scan = scan_out s; answer = answer_numbers answer }

-- the numbers as they were handed over, and 12
abbrev pub ran_refused : ScanNumbers → RanNumbers
ran_refused c = record { scan = c; answer = answer_numbers refused }
