-- The invariant: the line and column are those of the place which the loop has come to.
use native.Mathlib.Omega.{arith}
use mathlib.Core.Path.{◌≡◌, sym, ap, ap₂, ◌∙◌}
use Rattle.page.specs.declared.line.Line.{Line}
use Rattle.page.specs.Line.{line_at, passed_line}
use Rattle.page.proofs.Lines.{line_passed, line_within, column_within}
use Rattle.page.proofs.line.line_on.Goals as goal

pub passed-line-requires : goal.passed-line-requires
passed-line-requires c =
    let l = c.loop-at in
    let page = c.args.page.now in
    let n : l.line.number ≡ (line_at page l.at).number = ap (λ (x : Line). x.number) l.invariant in
    let k : l.line.column ≡ (line_at page l.at).column = ap (λ (x : Line). x.column) l.invariant in
    let pre = c.requires in
    (omega (arith, n, line_within page l.at, pre.0, pre.2), omega (arith, k, column_within page l.at, pre.0, pre.2))

pub loop-at-preserved : goal.loop-at-preserved
loop-at-preserved c =
    let l = c.loop-at in
    c.passed-line.ensures ∙ ap₂ passed_line l.invariant c.byte_at.ensures ∙ sym (line_passed c.args.page.now l.at)

pub returns : goal.returns
returns c =
    let l = c.loop-at in
    let a = c.args in
    let end : l.at ≡ a.place = omega (arith, l.auto.at-end c.requires.1, c.loop-at-test.false) in
    l.invariant ∙ ap (line_at a.page.now) end
