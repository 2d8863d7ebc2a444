use Rattle.scan.proofs.beginning.first_lines.Goals as goal

pub returns : goal.returns
returns c = rw (c.lines_of.ensures, c.first_line-2.ensures, c.first_line.ensures)
