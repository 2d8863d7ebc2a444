use Rattle.crossing.specs.Scans.{scan_in}
use Rattle.crossing.specs.Inner.{job_in}
use mathlib.Core.Path.{refl}
use Rattle.crossing.proofs.scans.job_in.Goals as goal

pub returns : goal.returns
unfolding job_in scan_in
returns c = refl
