use Prim.Native.Nat.{◌+◌, ◌-◌}
use native.Mathlib.Omega.{arith}
use mathlib.Core.Path.{sym, ◌∙◌}
use Rattle.worker.specs.Place.{place_in}
use Rattle.worker.proofs.Laws.{body_read}
use Rattle.worker.proofs.Worker.body.Goals as goal

pub returns : goal.returns
returns c =
    let a = c.args in
    let p = place_in a.self.places a.i in
    body_read a.bytes.now a.i a.self a.scratch.now (sym c.holds_page.ensures ∙ c.if-not-holds_page.false) _ _ _ (p.at + p.scan.tokenizer.job.length - p.at) (omega arith) c.from.ensures c.collect-body.ensures
