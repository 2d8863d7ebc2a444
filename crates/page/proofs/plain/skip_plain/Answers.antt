-- The invariant: all that is passed is plain.
use native.Mathlib.Omega.{arith}
use mathlib.Core.Path.{sym, ◌∙◌}
use lib.ListN.{drop, length-drop}
use lib.Seq.{take_all}
use Rattle.page.proofs.Blocks.{skip_none, skip_more, block_fits}
use Rattle.page.proofs.plain.skip_plain.Goals as goal

pub loop-block-init : goal.loop-block-init
loop-block-init c = skip_none _ _ c.requires.0

pub returns-then-not-plain_block : goal.returns-then-not-plain_block
returns-then-not-plain_block c = c.loop-block.invariant.plain

pub overflow_add-at : goal.overflow_add-at
overflow_add-at c =
    let d = length-drop c.args.from c.args.page.now in
    let whole = take_all _ (drop c.args.from c.args.page.now) (omega arith) in
    let fits = block_fits _ _ _ _ c.loop-block.invariant _ whole _ c.as_chunks.ensures.front c.as_chunks.ensures.front_len c.loop-block-test.true in
    omega (arith, fits, c.requires.1)

pub loop-block-preserved : goal.loop-block-preserved
loop-block-preserved c =
    let d = length-drop c.args.from c.args.page.now in
    let whole = take_all _ (drop c.args.from c.args.page.now) (omega arith) in
    skip_more _ _ _ _ c.loop-block.invariant _ whole _ c.as_chunks.ensures.front c.as_chunks.ensures.front_len c.loop-block-test.true _
    (sym c.plain_block.ensures ∙ c.if-not-plain_block.false)

pub returns : goal.returns
returns c = c.loop-block.invariant.plain
