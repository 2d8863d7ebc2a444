-- The invariant: what is written and what is left to write make the whole.
use Prim.Native.Nat.{◌*◌}
use mathlib.Core.Path.{◌≡◌}
use lib.ListN.{drop}
use lib.Seq.{sets}
use Rattle.text.specs.Hex.{bytes_of}
use Rattle.text.proofs.hexadecimal.write_pairs.Given as goal

abbrev pub invariant-loop-at : goal.invariant-loop-at
invariant-loop-at l = sets l.initial.out 0 (bytes_of l.digits) ≡ sets l.out l.at (bytes_of (drop (2 * l.at) l.digits))
