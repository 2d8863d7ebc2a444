use mathlib.Core.Path.{ap₂, ◌∙◌}
use Rattle.base.specs.declared.InTab.{InTab}
use Rattle.page.specs.declared.line.Line.{Line}
use Rattle.scan.specs.Lines.{lines_after}
use Rattle.scan.proofs.Scan.lines_after.Goals as goal

pub after-requires : goal.after-requires
after-requires c = c.requires.0

pub returns : goal.returns
returns c =
    c.after.ensures ∙ ap₂ (λ (l : Line) (t : InTab). lines_after c.args.page.now c.args.m.effect l t c.args.self.lines) (rw (c.passes.ensures, c.requires.1) at c.line_next.ensures) c.tab_next.ensures
