-- Two promises of every call, for an auditor to read: `ranges_are_closed` and `a_refused_call_changes_nothing`.
use Rattle.std.specs.Prelude.{ℕ, ◌≡◌, Bool, true, [], ◌∷◌}
use Rattle.base.specs.If.{among}
use Rattle.base.specs.Number as number
use Rattle.scan.specs.Answer.{Said}
use Rattle.worker.specs.declared.Worker.{Worker}
use Rattle.worker.specs.Place.{all_in_range}
use Rattle.worker.specs.Worker.{start_of}
use Rattle.worker_theorems.specs.Calls.{Ask, call_of, lent_to}

-- "a state outside the ranges docs/ lists (all that calls give are inside)": a worker that is started is in range, and every call on a
-- worker in range gives one in range, whatever it is lent
pub record RangesClosed : Type 0 where
  pub start : (q words : ℕ) → (start_of q words).answer.number ≡ number.started → all_in_range (start_of q words).worker ≡ true
  pub call : (x : Ask) (w : Worker) → all_in_range w ≡ true → all_in_range (call_of x w).worker ≡ true

-- 12, 11, 2, 3 and 4: "come before any step and write nothing"
abbrev pub refuses : Said → Bool
refuses a = among (number.bad_call ∷ number.no_place ∷ number.too_long ∷ number.bad_start ∷ number.bad_text ∷ []) a.number

-- of every worker, made up or not: the worker is as it was, and so is the memory that the call was lent
abbrev pub RefusedChangesNothing : Type 0
RefusedChangesNothing = (x : Ask) (w : Worker) → refuses (call_of x w).answer ≡ true → ((call_of x w).worker ≡ w) × ((call_of x w).memory ≡ lent_to x)
