use native.Mathlib.Omega.{arith}
use Rattle.scan.proofs.lines.point_in.Goals as goal

pub overflow_cast-result : goal.overflow_cast-result
overflow_cast-result c = omega (arith, c.requires.1)

pub overflow_cast-result-2 : goal.overflow_cast-result-2
overflow_cast-result-2 c = omega (arith, c.requires.0.number)

pub overflow_cast-result-3 : goal.overflow_cast-result-3
overflow_cast-result-3 c = omega (arith, c.requires.0.column, c.column-column.ensures.1)

pub returns : goal.returns
returns c = rw (← c.column-column.ensures.0)
