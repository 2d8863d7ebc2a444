use Rattle.scan.specs.Call.{fresh_in}
use Rattle.scan.proofs.Scan.fresh.Goals as goal

pub returns : goal.returns
unfolding fresh_in
returns c = rw (c.first_lines-lines.ensures, c.first_state.ensures, c.no_regs-regs.ensures)
