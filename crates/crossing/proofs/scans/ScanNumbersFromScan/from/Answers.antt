use Rattle.crossing.specs.Scans.{scan_out}
use Rattle.crossing.proofs.scans.ScanNumbersFromScan.from.Goals as goal

pub returns : goal.returns
unfolding scan_out
returns c = rw (c.columns.ensures, c.flags_out.ensures, c.from-heard.ensures)
