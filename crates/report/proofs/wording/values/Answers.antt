use Rattle.report.proofs.Puts.{then_put}
use Rattle.report.proofs.wording.values.Goals as goal

pub returns : goal.returns
returns c =
    let last = then_put _ _ _ _ c.value-past-2.ensures c.value.ensures in
    let behind = then_put _ _ _ _ c.place-past.ensures last in
    let put = then_put _ _ _ _ c.value-past.ensures behind in
    rw (c.then_some.ensures, c.then_some-2.ensures, c.then_some-3.ensures) at put
