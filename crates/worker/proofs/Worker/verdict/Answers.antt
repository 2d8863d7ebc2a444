use mathlib.Core.Bool.{Bool}
use mathlib.Core.List.{[]}
use mathlib.Core.Path.{sym, ap, ◌∙◌}
use Rattle.scan.specs.Answer.{said_by}
use Rattle.worker.specs.Place.{place_of, place_in, stored}
use Rattle.worker.specs.Reply.{left}
use Rattle.worker.proofs.Laws.{held_taken, verdict_given}
use Rattle.worker.proofs.Worker.verdict.Goals as goal

pub returns : goal.returns
returns c =
    let a = c.args in
    let h = sym c.holds.ensures ∙ c.if-not-holds.false in
    let given = c.give-given.result in
    rw c.put.ensures
    (ap (λ (taken : Bool). left (stored a.self a.i (place_of taken (place_in a.self.places a.i).at given.scan) a.self.last) (said_by given.answer) []) (held_taken a.i a.self h)
    ∙ verdict_given a.i a.verdict a.self h _ c.give-given.ensures)
