-- The calls of a single scan: a new scan, a run with an allowance, a verdict, the two in one call; and what each refuses.
--
-- docs/SCOPE.md, 'The answer table': "12, 2, 3, 4, in that order, come before any step and write nothing." 'The worker' lists what 12 is
-- given for: a number not listed in docs/, a state outside the ranges, a verdict nobody awaits or whose number is out of range, an
-- allowance of 0, a single scan resumed when finished, without its verdict, or with a page or event buffer of another length.
use Rattle.std.specs.Prelude.{ℕ, ◌+◌, ◌-◌, ◌*◌, ◌%◌, Bool, false, ◌&&◌, List, [], Result, Ok, Err, length, leb, ltb, eqb}
use Rattle.base.specs.If.{when◌then◌else◌}
use Rattle.base.specs.State.{nok, asking, first_running, mdx_expression_start, mdx_expression_verdict, mdx_jsx_start, mdx_esm_start, mdx_esm_verdict}
use Rattle.base.specs.Number as number
use Rattle.base.specs.declared.Verdict.{Verdict}
use Rattle.base.specs.declared.Verdict.TheVariants.{Fine}
use Rattle.events.specs.Words.{room_in}
use Rattle.page.specs.declared.line.Line.{Line}
use Rattle.page.specs.Line.{line_at, first_line}
use Rattle.page.specs.Page.{page_of, page_check}
use Rattle.page.specs.declared.Fault.{Fault}
use Rattle.tokenizer.specs.declared.Job.{Job}
use Rattle.tokenizer.specs.Registers.{no_regs}
use Rattle.tokenizer.specs.Ranges.{tag, esm, construct_listed, kind_listed, in_range, verdict_in_range}
use Rattle.scan.specs.declared.Scan.{Scan}
use Rattle.scan.specs.declared.Ran.{Ran}
use Rattle.scan.specs.declared.Answer.{Answer}
use Rattle.scan.specs.Lines.{first_lines, lines_in_range}
use Rattle.scan.specs.Scan.{step_bound, run_scan, run_words}
use Rattle.scan.specs.Answer.{Said, said, said_by, refused, refused_for, answer_of}

-- a scan that a call can have given, by the ranges of docs/NUMBERS.md
unfoldable pub scan_in_range : Scan → Bool
scan_in_range s =
    in_range s.tokenizer
    && (leb s.used (room_in s.tokenizer.job.words)
    && (leb s.steps (step_bound s.tokenizer.job)
    && lines_in_range s.lines))

-- the answer of a scan that is handed over
unfoldable pub asked_answer : Scan → Said
asked_answer s = when scan_in_range s then answer_of s else refused

-- what a call leaves: the scan, what it answered, and the lent words
pub record Left : Type 0 where
  pub scan : Scan
  pub answer : Said
  pub words : List ℕ

abbrev pub left : Scan → Said → List ℕ → Left
left s answer words = record { scan = s; answer = answer; words = words }

-- as the code hands it back
abbrev pub left_by : Ran → List ℕ → Left
left_by r words = left r.scan (said_by r.answer) words

-- ---- a run

-- a scan that neither asks nor has ended, its page and event buffer of their lengths, an allowance
unfoldable pub runnable : Scan → ℕ → ℕ → ℕ → Bool
runnable s n w allowance =
    ltb 0 allowance
    && (leb first_running s.tokenizer.state
    && (eqb n s.tokenizer.job.length
    && (eqb w s.tokenizer.job.words
    && scan_in_range s)))

unfoldable pub run_of : List ℕ → ℕ → Scan → List ℕ → Left
run_of page allowance s words =
    when runnable s (length page) (length words) allowance then left (run_scan page allowance s) (answer_of (run_scan page allowance s)) (run_words page allowance s words)
    else left s refused words

-- ---- a verdict

-- the scan asks, and the verdict can be heard
unfoldable pub givable : Scan → Verdict → Bool
givable s v = eqb s.tokenizer.state asking && (verdict_in_range v && scan_in_range s)

-- the verdict is kept: the next step applies it
abbrev pub verdict_state : ℕ → ℕ
verdict_state construct = when eqb construct esm then mdx_esm_verdict else mdx_expression_verdict

unfoldable pub given_scan : Scan → Verdict → Scan
given_scan s v =
    let t = s.tokenizer in
    record {
      tokenizer = record { job = t.job; state = verdict_state t.job.construct; at = t.at; regs = t.regs; heard = v };
      lines = s.lines;
      used = s.used;
      steps = s.steps;
    }

-- it is lent no words
unfoldable pub give_of : Scan → Verdict → Left
give_of s v = when givable s v then left (given_scan s v) (said number.kept []) [] else left s refused []

-- ---- a new scan

-- flags: 1 for a verdict source, 2 for an interrupt, summed
abbrev pub job_of : ℕ → ℕ → ℕ → ℕ → ℕ → ℕ → Job
job_of construct kind flags n start words =
    record {
      construct = construct;
      kind = kind;
      asks = eqb (flags % 2) 1;
      interrupt = leb 2 flags;
      length = n;
      start = start;
      words = words;
    }

-- the largest number of flags
abbrev pub all_flags : ℕ
all_flags = 3

abbrev pub first_state : ℕ → ℕ
first_state construct = when eqb construct esm then mdx_esm_start else when eqb construct tag then mdx_jsx_start else mdx_expression_start

-- a scan that has made no step, whose start is in a line
unfoldable pub fresh_in : Line → Job → Scan
fresh_in line j =
    record {
      tokenizer = record { job = j; state = first_state j.construct; at = j.start; regs = no_regs; heard = Fine };
      lines = first_lines line;
      used = 0;
      steps = 0;
    }

-- of a page
abbrev pub fresh_scan : List ℕ → Job → Scan
fresh_scan page j = fresh_in (line_at page j.start) j

-- where no scan is: one that has ended on an empty page, with nothing there
abbrev pub no_scan : Scan
no_scan =
    record {
      tokenizer = record {
        job = record { construct = 0; kind = 0; asks = false; interrupt = false; length = 0; start = 0; words = 0 };
        state = nok;
        at = 0;
        regs = no_regs;
        heard = Fine;
      };
      lines = first_lines first_line;
      used = 0;
      steps = 0;
    }

abbrev pub numbers_listed : ℕ → ℕ → ℕ → Bool
numbers_listed construct kind flags = leb flags all_flags && (construct_listed construct && kind_listed kind)

-- a new scan, or why there is none
pub data Begun : Type 0 where
  started : Scan → Begun
  not_started : Said → Begun

-- as the code hands it back
abbrev pub begun_by : Result Scan Answer → Begun
begun_by (Ok s) = started s
begun_by (Err a) = not_started (said_by a)

-- if its page is good
abbrev pub begun_if : Result Line Fault → Job → Begun
begun_if (Ok line) j = started (fresh_in line j)
begun_if (Err fault) j = not_started (refused_for fault)

-- a page of n bytes at a place of the lent bytes, with an event buffer of so many words
unfoldable pub begin_of : List ℕ → ℕ → ℕ → ℕ → ℕ → ℕ → ℕ → ℕ → Begun
begin_of bytes at n start construct kind flags words =
    when numbers_listed construct kind flags then begun_if (page_check bytes at n start) (job_of construct kind flags n start words)
    else not_started refused

-- ---- a single scan in one call

-- the scan is run, or there is none, and nothing is written
abbrev pub ran_from : Begun → List ℕ → ℕ → List ℕ → Left
ran_from (started s) page allowance words = run_of page allowance s words
ran_from (not_started answer) page allowance words = left no_scan answer words

-- "A single scan or resume names a step allowance": 12 for one of 0 comes before 2, 3 and 4
unfoldable pub single_of : List ℕ → ℕ → ℕ → ℕ → ℕ → ℕ → ℕ → ℕ → List ℕ → Left
single_of bytes at n start construct kind flags allowance words =
    when ltb 0 allowance then ran_from (begin_of bytes at n start construct kind flags (length words)) (page_of bytes at n) allowance words
    else left no_scan refused words

-- a single scan with steps enough: 8(n+1), n counting from the start to the page's end, so that it never pauses
abbrev pub whole_of : List ℕ → ℕ → ℕ → ℕ → ℕ → ℕ → ℕ → List ℕ → Left
whole_of bytes at n start construct kind flags words = single_of bytes at n start construct kind flags (8 * (n - start + 1)) words
