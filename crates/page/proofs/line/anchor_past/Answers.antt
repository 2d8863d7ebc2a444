use Rattle.page.proofs.line.anchor_past.Goals as goal

pub passed-line-requires : goal.passed-line-requires
passed-line-requires c = rw c.line_from.ensures (c.requires.2, c.requires.1)

pub returns : goal.returns
returns c = rw (c.passed-line.ensures, c.line_from.ensures)
