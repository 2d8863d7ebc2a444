-- A scan run by itself, with the verdicts that it is given in order: demand 2's definition, and what demand 3 compares a worker's page
-- with.
use Rattle.std.specs.Prelude.{ℕ, List, [], ◌∷◌, ◌++◌, eqb}
use Rattle.base.specs.If.{when◌then◌else◌}
use Rattle.base.specs.State.{asking}
use Rattle.base.specs.declared.Verdict.{Verdict}
use Rattle.events.specs.declared.Event.{Event}
use Rattle.scan.specs.declared.Scan.{Scan}
use Rattle.scan.specs.Scan.{run_scan, run_events}
use Rattle.scan.specs.Call.{given_scan}

-- a scan that asks hears the verdict; any other is left as it is
abbrev pub told_scan : Scan → Verdict → Scan
told_scan s v = when eqb s.tokenizer.state asking then given_scan s v else s

-- at most k steps up to each verdict and after the last
unfoldable pub run_alone : List ℕ → ℕ → List Verdict → Scan → Scan
run_alone page k [] s = run_scan page k s
run_alone page k (v ∷ vs) s = run_alone page k vs (told_scan (run_scan page k s) v)

-- the events of all these steps, in order
unfoldable pub events_alone : List ℕ → ℕ → List Verdict → Scan → List Event
events_alone page k [] s = run_events page k s
events_alone page k (v ∷ vs) s = run_events page k s ++ events_alone page k vs (told_scan (run_scan page k s) v)
