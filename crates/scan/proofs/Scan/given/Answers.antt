use Rattle.scan.specs.Call.{given_scan}
use Rattle.scan.proofs.Scan.given.Goals as goal

pub returns : goal.returns
unfolding given_scan
returns c = rw c.verdict_state.ensures
