-- The page's check is known for the record's start, the words behind the earlier events are lent, and the events of the answer fit there.
use Rattle.std.proofs.Common.{rules}
use Rattle.batch.proofs.Answered.{count_fits, sound_after}
use Rattle.batch.proofs.turns.answer_one.Goals as goal

pub overflow_add-used : goal.overflow_add-used
overflow_add-used c =
    let a = c.args in
    let fits = count_fits a.page.now a.words.now a.opening.now a.run c.requires c.whole-ran.result _ _ c.whole-ran.ensures c.filled-record.ensures in
    search (rules, fits)

pub returns-then-page-start-clause-sound : goal.returns-then-page-start-clause-sound
returns-then-page-start-clause-sound c =
    let a = c.args in
    sound_after a.page.now a.words.now a.opening.now a.run c.requires c.whole-ran.result _ _ c.whole-ran.ensures c.filled-record.ensures _ _ c.requires.known c.requires.from

pub returns-clause-sound : goal.returns-clause-sound
returns-clause-sound c =
    let a = c.args in
    sound_after a.page.now a.words.now a.opening.now a.run c.requires c.whole-ran.result _ _ c.whole-ran.ensures c.filled-record.ensures _ _ (search rules) (search rules)
