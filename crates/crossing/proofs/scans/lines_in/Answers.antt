use Rattle.crossing.specs.Scans.{scan_in}
use Rattle.crossing.specs.Inner.{lines_in}
use Rattle.crossing.proofs.scans.lines_in.Goals as goal

pub returns : goal.returns
unfolding lines_in scan_in
returns c = rw c.past.ensures
