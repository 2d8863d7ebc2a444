-- The invariant: all that is passed is plain.
use Rattle.page.proofs.Blocks.{Skips}
use Rattle.page.proofs.plain.skip_plain.Given as goal

abbrev pub invariant-loop-block : goal.invariant-loop-block
invariant-loop-block l = Skips l.page l.from l.block-index l.at
