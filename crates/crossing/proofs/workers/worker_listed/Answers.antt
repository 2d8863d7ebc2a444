use Prim.Native.Nat.{ℕ, ◌+◌, ◌-◌}
use native.Mathlib.Omega.{arith}
use mathlib.Core.Path.{refl, sym, ap, ◌∙◌}
use Rattle.crossing.specs.Workers.{place_listed, numbers_at, each, worker_listed}
use Rattle.crossing.proofs.Tables.{each_fails, each_goes_on, each_none}
use Rattle.crossing.proofs.workers.worker_listed.Goals as goal

pub loop-place-init : goal.loop-place-init
unfolding worker_listed
loop-place-init c = refl

pub returns-then-not-place_listed : goal.returns-then-not-place_listed
returns-then-not-place_listed c =
    let test : ℕ → _ = λ i. place_listed (numbers_at c.args.numbers.places i) in
    sym (c.loop-place.invariant ∙ each_fails test c.loop-place.place-index (16 - c.loop-place.place-index) (omega arith) (sym c.place_listed.ensures ∙ c.if-not-place_listed.true))

pub loop-place-preserved : goal.loop-place-preserved
loop-place-preserved c =
    let test : ℕ → _ = λ i. place_listed (numbers_at c.args.numbers.places i) in
    c.loop-place.invariant ∙ each_goes_on test c.loop-place.place-index (16 - c.loop-place.place-index) (omega arith) (sym c.place_listed.ensures ∙ c.if-not-place_listed.false) ∙ ap (λ (n : ℕ). each test (c.loop-place.place-index + 1) n) (omega arith)

pub returns : goal.returns
returns c =
    let test : ℕ → _ = λ i. place_listed (numbers_at c.args.numbers.places i) in
    sym (c.loop-place.invariant ∙ each_none test c.loop-place.place-index (16 - c.loop-place.place-index) (omega arith))
