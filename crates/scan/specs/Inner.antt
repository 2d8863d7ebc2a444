-- What inner functions ask of their callers, so that no sum of theirs wraps. No promise to a user of the library cites these.
use Rattle.std.specs.Prelude.{ℕ, ◌+◌, ◌≤◌, ◌<◌, ◌^◌, ◌≡◌, List, length}
use Rattle.base.specs.Page.{page_limit, byte_at}
use Rattle.events.specs.Words.{room_in}
use Rattle.page.specs.declared.line.Line.{Line}
use Rattle.scan.specs.declared.lines.Lines.{Lines}
use Rattle.scan.specs.declared.Scan.{Scan}
use Rattle.scan.specs.Lines.{highest, highest_column}

-- no line and no column has a higher number than a page's have
pub record Low (line : Line) : Type 0 where
  pub number : line.number ≤ highest
  pub column : line.column ≤ highest_column

abbrev pub Small : Lines → Type 0
Small l = Low l.line × Low l.kept × Low l.fault

-- a scan over a page of n bytes and w lent words
pub record Fit (s : Scan) (n w : ℕ) : Type 0 where
  pub long : s.tokenizer.job.length ≡ n
  pub short : n ≤ page_limit
  pub start : s.tokenizer.job.start ≤ n
  pub at : s.tokenizer.at ≤ n
  pub saved : s.tokenizer.regs.saved ≤ n
  pub words : s.tokenizer.job.words ≡ w
  pub used : s.used ≤ room_in w
  pub lines : Small s.lines

-- what the count of events and steps asks
pub record Counts (s : Scan) (n : ℕ) : Type 0 where
  pub short : s.tokenizer.job.length ≤ page_limit
  pub start : s.tokenizer.job.start ≤ s.tokenizer.job.length
  pub used : s.used + n < 2 ^ 64

-- a step at its byte
pub record Stepping (s : Scan) (page words : List ℕ) (b : ℕ) : Type 0 where
  pub fit : Fit s (length page) (length words)
  pub byte : b ≡ byte_at page s.tokenizer.at
