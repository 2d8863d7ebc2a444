use mathlib.Core.Path.{sym}
use borrow.Author.Rules.{rules}
use lib.Bits.{and_mask}
use Rattle.char_class.specs.Lookup.{looked_up}
use Rattle.char_class.proofs.Entries.{no_entry}
use Rattle.char_class.proofs.lookup.looked_up.Goals as goal

-- past the last byte
pub returns-then-b-ge-END_OF_PAGE : goal.returns-then-b-ge-END_OF_PAGE
returns-then-b-ge-END_OF_PAGE c = sym (no_entry c.args.table c.args.b (search rules) c.if-b-ge-END_OF_PAGE.true)

-- the lowest bit of a number is the number modulo 2
pub returns : goal.returns
unfolding looked_up
returns c = rw (and_mask _ 1, c.word_of.ensures)
