use Rattle.events.proofs.Laws.{one_written}
use Rattle.events.proofs.put_one.Goals as goal

pub returns : goal.returns
returns c =
    let a = c.args in
    rw (c.kind_word-first.ensures, c.point_of-point.ensures) (one_written a.words.now a.k a.here a.past a.mark)
