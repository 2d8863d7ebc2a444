-- The invariant: what is written and what is left to write make the whole.
use Prim.Native.Nat.{◌/◌}
use native.Mathlib.Numerals.{add-one}
use native.Mathlib.Omega.{arith}
use mathlib.Core.Path.{sym, ◌∙◌, ap}
use lib.ListN.{length}
use lib.Seq.{sets}
use Rattle.text.proofs.Pairs.{bytes_at, bytes_end}
use Rattle.text.proofs.hexadecimal.write_pairs.Goals as goal

pub loop-at-preserved : goal.loop-at-preserved
loop-at-preserved c =
    let s = c.args.digits.now in
    let l = c.loop-at in
    l.invariant ∙ ap (sets l.out l.at) (bytes_at s (length s / 2) l.at (omega arith) (omega arith))
    ∙ rw (c.digit.ensures.value, c.digit-in-loop-at.ensures.value, c.as_chunks.ensures.front, add-one l.at)

pub returns : goal.returns
returns c =
    let l = c.loop-at in
    sym (l.invariant ∙ ap (sets l.out l.at) (bytes_end c.args.digits.now l.at (omega arith)))
