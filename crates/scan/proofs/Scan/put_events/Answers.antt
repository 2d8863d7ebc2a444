use native.Mathlib.Omega.{arith}
use mathlib.Core.Path.{sym, ◌∙◌}
use Rattle.events.proofs.Laws.{written_none}
use Rattle.scan.proofs.Steps.{past_low, no_marks}
use Rattle.scan.proofs.Scan.put_events.Goals as goal

-- no events
pub returns-then-count-eq0 : goal.returns-then-count-eq0
returns-then-count-eq0 c =
    let a = c.args in
    sym (rw (no_marks a.marks (sym c.count.ensures ∙ c.if-count-eq0.true)) (written_none a.words.now a.self.used))

pub point_in-here-requires : goal.point_in-here-requires
point_in-here-requires c = (c.requires.0, omega (arith, c.requires.1))

pub point_in-past-requires : goal.point_in-past-requires
point_in-past-requires c =
    (rw c.line_past.ensures (past_low c.args.self.lines.line c.args.b c.requires.0), omega (arith, c.requires.1))

pub put-requires : goal.put-requires
put-requires c = c.requires.2

pub returns : goal.returns
returns c =
    rw (← c.point_in-here.ensures, ← c.line_past.ensures, ← c.point_in-past.ensures) c.put.ensures
