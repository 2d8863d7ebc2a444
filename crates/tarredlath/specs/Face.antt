-- The functions that another language calls: each is the library's own call, of the scan or the worker that the numbers stand for, and what
-- that hands back as numbers. docs/SCOPE.md, 'From other languages'.
--
-- How a scan, a worker and an answer are written as numbers is in crate `crossing`, and so are the laws that nothing is lost on the way.
use Rattle.std.specs.Prelude.{ℕ, List}
use Rattle.base.specs.If.{when◌then◌else◌}
use Rattle.scan.specs.Answer.{refused}
use Rattle.scan.specs.Call as single
use Rattle.scan.specs.Call.{Begun, started, not_started, no_scan, asked_answer, begin_of, run_of, give_of, single_of}
use Rattle.room.specs.Room.{enough_of}
use Rattle.mdx_collect.specs.Collect.{Collected, collect_of}
use Rattle.mdx_collect.specs.Kind.{body_kind}
use Rattle.worker.specs.Reply as worker
use Rattle.worker.specs.Worker.{start_of, admit_of, turn_of, verdict_of, collect_call, body_call}
use Rattle.worker.specs.View.{nothing_seen, view_of}
use Rattle.worker.specs.declared.viewing.View.{View}
use Rattle.base.specs.Number.{bad_call}
use Rattle.crossing.specs.declared.AnswerNumbers.{AnswerNumbers}
use Rattle.crossing.specs.declared.BodyNumbers.{BodyNumbers}
use Rattle.crossing.specs.declared.EnoughNumbers.{EnoughNumbers}
use Rattle.crossing.specs.declared.ScanNumbers.{ScanNumbers}
use Rattle.crossing.specs.declared.RanNumbers.{RanNumbers}
use Rattle.crossing.specs.declared.WorkerNumbers.{WorkerNumbers}
use Rattle.crossing.specs.declared.CalledNumbers.{CalledNumbers}
use Rattle.crossing.specs.declared.StartedNumbers.{StartedNumbers}
use Rattle.crossing.specs.Answers.{answer_numbers, body_numbers, enough_numbers}
use Rattle.crossing.specs.Scans.{verdict_listed, verdict_in, scan_listed, scan_in, ran_out, ran_refused}
use Rattle.crossing.specs.Workers.{worker_listed, worker_in, called_out, called_refused, started_out}

-- the version of the interface
abbrev pub version : ℕ
version = 1

-- ---- single scans

-- what a call hands back, and the lent event words
pub record Ran : Type 0 where
  pub handed : RanNumbers
  pub words : List ℕ

abbrev pub ran : RanNumbers → List ℕ → Ran
ran r words = record { handed = r; words = words }

-- of what the library's own call leaves
abbrev pub crossed : single.Left → Ran
crossed l = ran (ran_out l.scan l.answer) l.words

-- of a call that is lent no words
abbrev pub across : single.Left → RanNumbers
across l = ran_out l.scan l.answer

abbrev pub enough_face : ℕ → EnoughNumbers
enough_face n = enough_numbers (enough_of n)

abbrev pub once_face : List ℕ → ℕ → ℕ → ℕ → ℕ → ℕ → ℕ → ℕ → List ℕ → Ran
once_face bytes at n start construct kind flags allowance words = crossed (single_of bytes at n start construct kind flags allowance words)

-- a new scan stands where it starts; where there is none, why
abbrev pub begun : Begun → RanNumbers
begun (started s) = ran_out s (asked_answer s)
begun (not_started answer) = ran_out no_scan answer

abbrev pub new_face : List ℕ → ℕ → ℕ → ℕ → ℕ → ℕ → ℕ → ℕ → RanNumbers
new_face bytes at n start construct kind flags words = begun (begin_of bytes at n start construct kind flags words)

unfoldable pub run_face : List ℕ → ℕ → ScanNumbers → List ℕ → Ran
run_face page allowance c words = when scan_listed c then crossed (run_of page allowance (scan_in c) words) else ran (ran_refused c) words

unfoldable pub give_face : ScanNumbers → ℕ → ℕ → ℕ → RanNumbers
give_face c v n offset =
    when verdict_listed v then (when scan_listed c then across (give_of (scan_in c) (verdict_in v n offset)) else ran_refused c)
    else ran_refused c

unfoldable pub answer_face : ScanNumbers → AnswerNumbers
answer_face c = when scan_listed c then answer_numbers (asked_answer (scan_in c)) else answer_numbers refused

-- where a body is, and the scratch
pub record Read : Type 0 where
  pub handed : BodyNumbers
  pub scratch : List ℕ

abbrev pub read : BodyNumbers → List ℕ → Read
read b scratch = record { handed = b; scratch = scratch }

abbrev pub body_read : Collected → ℕ → Read
body_read l kind = read (body_numbers l.answer kind) l.scratch

unfoldable pub body_face : List ℕ → ScanNumbers → List ℕ → Read
body_face page c scratch =
    when scan_listed c then body_read (collect_of page (scan_in c) scratch) (body_kind (scan_in c))
    else read (body_numbers refused 0) scratch

-- ---- workers

-- what a call hands back, and the lent event words
pub record Called : Type 0 where
  pub handed : CalledNumbers
  pub words : List ℕ

abbrev pub called : CalledNumbers → List ℕ → Called
called r words = record { handed = r; words = words }

abbrev pub called_across : worker.Left → CalledNumbers
called_across l = called_out l.worker l.answer

abbrev pub start_face : ℕ → ℕ → StartedNumbers
start_face q words = started_out (start_of q words).worker (start_of q words).answer

unfoldable pub admit_face : List ℕ → ℕ → ℕ → ℕ → ℕ → ℕ → ℕ → WorkerNumbers → CalledNumbers
admit_face bytes at n start construct kind flags c =
    when worker_listed c then called_across (admit_of bytes at n start construct kind flags (worker_in c))
    else called_refused c

unfoldable pub turn_face : List ℕ → WorkerNumbers → List ℕ → Called
turn_face bytes c events =
    when worker_listed c then called (called_across (turn_of bytes (worker_in c) events)) (turn_of bytes (worker_in c) events).memory
    else called (called_refused c) events

unfoldable pub verdict_face : ℕ → ℕ → ℕ → ℕ → WorkerNumbers → CalledNumbers
verdict_face i v n offset c =
    when verdict_listed v then (when worker_listed c then called_across (verdict_of i (verdict_in v n offset) (worker_in c)) else called_refused c)
    else called_refused c

unfoldable pub collect_face : ℕ → WorkerNumbers → CalledNumbers
collect_face i c = when worker_listed c then called_across (collect_call i (worker_in c)) else called_refused c

-- a worker is not changed by a look at it, so none is handed back
unfoldable pub place_body_face : List ℕ → ℕ → WorkerNumbers → List ℕ → Read
place_body_face bytes i c scratch =
    when worker_listed c then
    read (body_numbers (body_call bytes i (worker_in c) scratch).answer (view_of i (worker_in c)).body) (body_call bytes i (worker_in c) scratch).memory
    else read (body_numbers refused 0) scratch

unfoldable pub view_face : ℕ → WorkerNumbers → View
view_face i c = when worker_listed c then view_of i (worker_in c) else nothing_seen bad_call
