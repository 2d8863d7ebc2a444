use Rattle.scan.proofs.lines.spot_in.Goals as goal

pub returns : goal.returns
returns c = rw (← c.column-column.ensures.0)
