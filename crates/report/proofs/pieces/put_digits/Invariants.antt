-- The invariant: what is put and what is left to put make the whole.
use Rattle.std.proofs.Common.{◌≡◌, ◌+◌, ◌*◌, length, drop}
use Rattle.std.proofs.lemmas.List.Edits.{sets}
use Rattle.report.specs.Hex.{hex_of}
use Rattle.report.proofs.pieces.put_digits.Given as goal

abbrev pub invariant-loop-i : goal.invariant-loop-i
invariant-loop-i l =
    (length l.out ≡ length l.initial.out) ×
    (sets l.initial.out l.at (hex_of l.bytes) ≡ sets l.out (l.at + l.i * 2) (hex_of (drop l.i l.bytes)))
