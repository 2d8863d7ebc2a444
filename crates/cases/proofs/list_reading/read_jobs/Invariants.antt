-- A job ends behind its beginning.
use Rattle.std.proofs.Common.{◌+◌, ◌≤◌}
use Rattle.cases.proofs.list_reading.read_jobs.Given as goal

abbrev pub invariant-loop-k : goal.invariant-loop-k
invariant-loop-k l = l.from + l.k ≤ l.next
