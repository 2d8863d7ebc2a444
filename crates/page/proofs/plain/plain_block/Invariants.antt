-- The invariant: the count is that of the bytes looked at so far.
use mathlib.Core.Path.{◌≡◌}
use lib.ListN.{take}
use Rattle.std.specs.List.{count_by}
use Rattle.page.specs.Plain.{is_plain}
use Rattle.page.proofs.plain.plain_block.Given as goal

abbrev pub invariant-loop-b : goal.invariant-loop-b
invariant-loop-b l = l.plain ≡ count_by is_plain (take l.b-index l.block)
