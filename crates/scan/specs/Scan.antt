-- One step of a scan, and a run of steps: the tokenizer's decision, its events, its lines, and the count of steps.
--
-- docs/SCOPE.md, 'Steps': "One call of one state is a step; so is applying a verdict." 'The answer table': "A step writes all its events
-- or none; full room wins over what that step would have answered."
use Rattle.std.specs.Prelude.{ℕ, zero, suc, ◌+◌, ◌-◌, ◌*◌, Bool, ◌&&◌, List, [], ◌++◌, ltb}
use Rattle.base.specs.If.{when◌then◌else◌}
use Rattle.base.specs.Page.{byte_at}
use Rattle.base.specs.State.{full, rests}
use Rattle.base.specs.Decide.{retry, list_of, count_of}
use Rattle.base.specs.declared.InTab.TheVariants.{Outside}
use Rattle.base.specs.declared.Marks.TheVariants.{Nothing}
use Rattle.base.specs.declared.Mark.{Mark}
use Rattle.base.specs.declared.Move.{Move}
use Rattle.page.specs.declared.line.Line.{Line}
use Rattle.events.specs.declared.Event.{Event}
use Rattle.events.specs.Event.{events_at}
use Rattle.events.specs.Words.{room_in, written}
use Rattle.tokenizer.specs.declared.Job.{Job}
use Rattle.tokenizer.specs.Decision.{decision}
use Rattle.tokenizer.specs.Moved.{one_more, moved}
use Rattle.scan.specs.declared.lines.Lines.{Lines}
use Rattle.scan.specs.declared.Scan.{Scan}
use Rattle.scan.specs.Lines.{line_past, point_in, tab_next, lines_after}

-- "A run over n bytes takes at most 8(n+1) steps", n counting from the start to the page's end
abbrev pub step_bound : Job → ℕ
step_bound j = 8 * (j.length - j.start + 1)

-- a step is counted. A run from a new scan never gets past the bound (crate `scan_theorems`)
abbrev pub counted : Scan → ℕ
counted s = one_more s.steps (step_bound s.tokenizer.job)

-- what the state decides at its place
unfoldable pub choice : List ℕ → Scan → Move
choice page s = decision page s.tokenizer (byte_at page s.tokenizer.at)

-- the events of a decision do not all fit
abbrev pub lacks : Scan → Move → Bool
lacks s m = ltb (room_in s.tokenizer.job.words - s.used) (count_of m.marks)

-- what is carried out: the decision, or the end of the scan for want of room
abbrev pub carried_out : Scan → Move → Move
carried_out s m = when lacks s m then retry full Nothing else m

-- a byte is eaten, and there is one
abbrev pub passes : Scan → Move → Bool
passes s m = m.eat && ltb s.tokenizer.at s.tokenizer.job.length

-- the line of the byte that comes next, and the lines after a decision
abbrev pub line_next : List ℕ → Scan → Move → Line
line_next page s m = when passes s m then line_past s.lines.line (byte_at page s.tokenizer.at) else s.lines.line

abbrev pub lines_step : List ℕ → Scan → Move → Lines
lines_step page s m = lines_after page m.effect (line_next page s m) (tab_next m.eat s.lines.tab) s.lines

-- the events of marks at a scan's place, whose byte is b: each stands there, inside a tab if the scan is, or one byte past it
abbrev pub marks_at : ℕ → Scan → List Mark → List Event
marks_at b s marks =
    let line = s.lines.line in
    let at = s.tokenizer.at in
    events_at (point_in line s.lines.tab at) (point_in (line_past line b) Outside (at + 1)) marks

-- the scan after a decision that writes n events
abbrev pub moved_scan : Scan → Move → ℕ → Lines → Scan
moved_scan s m n lines = record { tokenizer = moved s.tokenizer m; lines = lines; used = s.used + n; steps = counted s }

-- one step
unfoldable pub step_scan : List ℕ → Scan → Scan
step_scan page s =
    let m = carried_out s (choice page s) in
    moved_scan s m (count_of m.marks) (lines_step page s m)

-- and its events
unfoldable pub step_events : List ℕ → Scan → List Event
step_events page s = marks_at (byte_at page s.tokenizer.at) s (list_of (carried_out s (choice page s)).marks)

-- at most k steps: a scan that has ended or asks makes none
unfoldable pub run_scan : List ℕ → ℕ → Scan → Scan
run_scan page zero s = s
run_scan page (suc k) s =
    let r = run_scan page k (step_scan page s) in
    when rests s.tokenizer.state then s else r

-- their events, in order
unfoldable pub run_events : List ℕ → ℕ → Scan → List Event
run_events page zero s = []
run_events page (suc k) s =
    let r = step_events page s ++ run_events page k (step_scan page s) in
    when rests s.tokenizer.state then [] else r

-- the lent words after a run: its events behind those that were there, and all else as it was
abbrev pub run_words : List ℕ → ℕ → Scan → List ℕ → List ℕ
run_words page k s words = written words s.used (run_events page k s)
