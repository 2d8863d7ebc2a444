-- The page's first byte has the first line, so the count goes on from there.
use native.Mathlib.Omega.{arith}
use mathlib.Core.Path.{sym, ◌∙◌}
use Rattle.page.proofs.Lines.{line_first}
use Rattle.page.proofs.line.line_at.Goals as goal

pub line_on-requires : goal.line_on-requires
line_on-requires c =
    let pre = c.requires in
    (pre.0, omega arith, pre.1, c.first_line.ensures ∙ sym (line_first _))
