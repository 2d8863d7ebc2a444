use Rattle.scan.proofs.stepping.passed_lines.Goals as goal

pub returns : goal.returns
returns c = rw (c.lines_of.ensures, c.count_steps.ensures)
