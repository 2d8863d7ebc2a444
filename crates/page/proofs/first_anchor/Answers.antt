use Rattle.page.proofs.first_anchor.Goals as goal

pub returns : goal.returns
returns c = rw c.first_line-line.ensures
