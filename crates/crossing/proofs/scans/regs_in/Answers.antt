use Rattle.crossing.specs.Scans.{scan_in}
use Rattle.crossing.specs.Inner.{regs_in}
use mathlib.Core.Path.{refl}
use Rattle.crossing.proofs.scans.regs_in.Goals as goal

pub returns : goal.returns
unfolding regs_in scan_in
returns c = refl
