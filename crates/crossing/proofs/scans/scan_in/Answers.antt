use Rattle.crossing.specs.Scans.{scan_in}
use Rattle.crossing.specs.Inner.{job_in, regs_in, lines_in}
use Rattle.crossing.proofs.scans.scan_in.Goals as goal

pub returns : goal.returns
unfolding job_in regs_in lines_in scan_in
returns c = rw (c.lines_in.ensures, c.regs_in.ensures, c.job_in.ensures, c.verdict_in.ensures)
