-- The invariant: the events passed are put, and those that are left make the whole.
use Rattle.std.proofs.Common.{◌≡◌, ◌-◌, length}
use Rattle.events.specs.Words.{events_in}
use Rattle.report.specs.Output.{put_each}
use Rattle.report.proofs.output.put_events.Given as goal

abbrev pub invariant-loop-k : goal.invariant-loop-k
invariant-loop-k g l =
    (length l.out ≡ length l.initial.out) ×
    (put_each (g.T.EventText.pieces) l.out l.at (events_in l.words l.k (l.most - l.k)) ≡ put_each (g.T.EventText.pieces) l.initial.out l.used (events_in l.words 0 l.most))
