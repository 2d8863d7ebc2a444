-- What the tests of a call tell of a scan.
use Prim.Native.Nat.{ℕ, ◌≤◌}
use native.Mathlib.Omega.{arith}
use mathlib.Core.Path.{◌≡◌, sym}
use mathlib.Core.Bool.{true}
use lib.Dec.{leb, ltb, eqb}
use borrow.Author.Tests.{leb-true, le-leb, eqb-true}
use Rattle.base.proofs.Choice.{both, and_yes}
use Rattle.events.specs.Words.{room_in}
use Rattle.page.specs.declared.line.Line.{Line}
use Rattle.tokenizer.specs.declared.Tokenizer.{Tokenizer}
use Rattle.base.specs.Page.{page_limit}
use Rattle.tokenizer.specs.Ranges.{job_in_range, listed, places_in_range, numbers_in_range, is_return, regs_in_range, in_range}
use Rattle.scan.specs.declared.lines.Lines.{Lines}
use Rattle.scan.specs.declared.Scan.{Scan}
use Rattle.scan.specs.Lines.{highest, highest_column, line_in_range, lines_in_range}
use Rattle.scan.specs.Scan.{step_bound}
use Rattle.scan.specs.Inner.{Low, Small, Fit}
use Rattle.scan.specs.Call.{scan_in_range, runnable}

-- the numbers that a step counts with
pub record Ranged (t : Tokenizer) : Type 0 where
  pub at : t.at ≤ t.job.length
  pub short : t.job.length ≤ page_limit
  pub start : t.job.start ≤ t.job.length
  pub saved : t.regs.saved ≤ t.job.length

pub ranged : (t : Tokenizer) → in_range t ≡ true → Ranged t
unfolding in_range job_in_range regs_in_range places_in_range
ranged t e =
    let a = both (leb t.at t.job.length) _ e in
    let j = both (job_in_range t.job) _ a.1 in
    let l = both (listed t.job.construct t.state) _ j.1 in
    let r = both (regs_in_range t.job.length t.regs) _ l.1 in
    let l₂ = both (leb t.job.length page_limit) _ j.0 in
    let s₂ = both (leb t.job.start t.job.length) _ l₂.1 in
    let r₂ = both (is_return t.regs.back) _ r.0 in
    let r₃ = both (numbers_in_range t.regs) _ r₂.1 in
    let r₄ = both (leb t.regs.saved t.job.length) _ r₃.1 in
    record {
      at = leb-true t.at t.job.length a.0;
      short = leb-true t.job.length page_limit l₂.0;
      start = leb-true t.job.start t.job.length s₂.0;
      saved = leb-true t.regs.saved t.job.length r₄.0;
    }

-- the numbers of its lines and columns
line_low : (line : Line) → line_in_range line ≡ true → Low line
unfolding line_in_range
line_low line e =
    let a = both (leb line.number highest) (leb line.column highest_column) e in
    record { number = leb-true line.number highest a.0; column = leb-true line.column highest_column a.1 }

line_told : (line : Line) → Low line → line_in_range line ≡ true
unfolding line_in_range
line_told line h = and_yes _ _ (le-leb line.number highest h.number) (le-leb line.column highest_column h.column)

pub lines_small : (l : Lines) → lines_in_range l ≡ true → Small l
unfolding lines_in_range
lines_small l e =
    let a = both (line_in_range l.line) _ e in
    let b = both (line_in_range l.kept) (line_in_range l.fault) a.1 in
    (line_low l.line a.0, line_low l.kept b.0, line_low l.fault b.1)

pub lines_told : (l : Lines) → Small l → lines_in_range l ≡ true
unfolding lines_in_range
lines_told l h =
    and_yes _ _ (line_told l.line h.0) (and_yes _ _ (line_told l.kept h.1) (line_told l.fault h.2))

-- a scan that a run takes fits its page and its words
pub fit_of : (s : Scan) (n w allowance : ℕ) → runnable s n w allowance ≡ true → Fit s n w
unfolding runnable scan_in_range
fit_of s n w allowance e =
    let a = both (ltb 0 allowance) _ e in
    let b = both (leb 32 s.tokenizer.state) _ a.1 in
    let c = both (eqb n s.tokenizer.job.length) _ b.1 in
    let d = both (eqb w s.tokenizer.job.words) _ c.1 in
    let f = both (in_range s.tokenizer) _ d.1 in
    let g = both (leb s.used (room_in s.tokenizer.job.words)) _ f.1 in
    let k = both (leb s.steps (step_bound s.tokenizer.job)) _ g.1 in
    let i = lines_small s.lines k.1 in
    let r = ranged s.tokenizer f.0 in
    let l : s.tokenizer.job.length ≡ n = sym (eqb-true n s.tokenizer.job.length c.0) in
    let v : s.tokenizer.job.words ≡ w = sym (eqb-true w s.tokenizer.job.words d.0) in
    record {
      long = l;
      short = omega (arith, r.short);
      start = omega (arith, r.start);
      at = omega (arith, r.at);
      saved = omega (arith, r.saved);
      words = v;
      used = omega (arith, leb-true s.used (room_in s.tokenizer.job.words) g.0);
      lines = i;
    }
