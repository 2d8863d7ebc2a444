use Rattle.scan.proofs.beginning.no_scan.Goals as goal

pub returns : goal.returns
returns c = rw (c.first_lines-lines.ensures, c.first_line.ensures, c.no_regs-regs.ensures)
