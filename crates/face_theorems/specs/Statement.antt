-- What is promised of scans and workers that go to another language and come back, for an auditor to read: nothing is lost on the way, and
-- whoever calls by numbers gets what the library's own calls give. The theorems are in proofs/, under the names that stand beside them here.
--
-- docs/SCOPE.md, 'From other languages'.
use Rattle.std.specs.Prelude.{ℕ, ◌≡◌, true, List, length}
use Rattle.base.specs.declared.Verdict.{Verdict}
use Rattle.scan.specs.declared.Scan.{Scan}
use Rattle.scan.specs.Call.{asked_answer, run_of, give_of}
use Rattle.mdx_collect.specs.Collect.{collect_of}
use Rattle.mdx_collect.specs.Kind.{body_kind}
use Rattle.worker.specs.declared.Worker.{Worker}
use Rattle.worker.specs.Ring.{places}
use Rattle.worker.specs.Worker.{admit_of, turn_of, verdict_of, collect_call, body_call}
use Rattle.worker.specs.View.{view_of}
use Rattle.crossing.specs.declared.ScanNumbers.{ScanNumbers}
use Rattle.crossing.specs.declared.WorkerNumbers.{WorkerNumbers}
use Rattle.crossing.specs.Answers.{answer_numbers, body_numbers}
use Rattle.crossing.specs.Scans.{verdict_out, scan_listed, scan_in, scan_out}
use Rattle.crossing.specs.Workers.{worker_listed, worker_in, worker_out}
use Rattle.tarredlath.specs.Face.{crossed, across, body_read, read, called, called_across, run_face, give_face, answer_face, body_face, admit_face, turn_face, verdict_face, collect_face, place_body_face, view_face}

-- ---- there and back

-- the numbers of a scan stand for that scan: `a_scan_comes_back`
pub record ScanBack (s : Scan) : Type 0 where
  pub listed : scan_listed (scan_out s) ≡ true
  pub same : scan_in (scan_out s) ≡ s

abbrev pub ScanComesBack : Type 0
ScanComesBack = (s : Scan) → ScanBack s

-- no two rows of numbers stand for one scan, so that a scan which a call leaves as it was is handed back as the numbers that it was handed over
-- as: `numbers_come_back`
abbrev pub NumbersComeBack : Type 0
NumbersComeBack = (c : ScanNumbers) → scan_listed c ≡ true → scan_out (scan_in c) ≡ c

-- the same of a worker. Every worker has sixteen places: `a_worker_comes_back`, `a_workers_numbers_come_back`
pub record WorkerBack (w : Worker) : Type 0 where
  pub listed : worker_listed (worker_out w) ≡ true
  pub same : worker_in (worker_out w) ≡ w

abbrev pub WorkerComesBack : Type 0
WorkerComesBack = (w : Worker) → length w.places ≡ places → WorkerBack w

abbrev pub WorkersNumbersComeBack : Type 0
WorkersNumbersComeBack = (c : WorkerNumbers) → length c.places ≡ places → worker_listed c ≡ true → worker_out (worker_in c) ≡ c

-- ---- calls by numbers are the library's own: `the_face_adds_nothing_to_scans`, `the_face_adds_nothing_to_workers`

-- of every scan, as it was handed out
pub record ScanFace (s : Scan) : Type 0 where
  pub run : (page : List ℕ) (allowance : ℕ) (words : List ℕ) → run_face page allowance (scan_out s) words ≡ crossed (run_of page allowance s words)
  pub give : (v : Verdict) → give_face (scan_out s) (verdict_out v).verdict (verdict_out v).number (verdict_out v).offset ≡ across (give_of s v)
  pub answer : answer_face (scan_out s) ≡ answer_numbers (asked_answer s)
  pub body : (page scratch : List ℕ) → body_face page (scan_out s) scratch ≡ body_read (collect_of page s scratch) (body_kind s)

abbrev pub ScansAreTheLibrarys : Type 0
ScansAreTheLibrarys = (s : Scan) → ScanFace s

-- of every worker of sixteen places, as it was handed out
pub record WorkerFace (w : Worker) : Type 0 where
  pub admit :
      (bytes : List ℕ) (at n start construct kind flags : ℕ)
      → admit_face bytes at n start construct kind flags (worker_out w) ≡ called_across (admit_of bytes at n start construct kind flags w)
  pub turn :
      (bytes events : List ℕ) → turn_face bytes (worker_out w) events ≡ called (called_across (turn_of bytes w events)) (turn_of bytes w events).memory
  pub verdict :
      (i : ℕ) (v : Verdict)
      → verdict_face i (verdict_out v).verdict (verdict_out v).number (verdict_out v).offset (worker_out w) ≡ called_across (verdict_of i v w)
  pub collect : (i : ℕ) → collect_face i (worker_out w) ≡ called_across (collect_call i w)
  pub body :
      (bytes : List ℕ) (i : ℕ) (scratch : List ℕ)
      → place_body_face bytes i (worker_out w) scratch ≡ read (body_numbers (body_call bytes i w scratch).answer (view_of i w).body) (body_call bytes i w scratch).memory
  pub view : (i : ℕ) → view_face i (worker_out w) ≡ view_of i w

abbrev pub WorkersAreTheLibrarys : Type 0
WorkersAreTheLibrarys = (w : Worker) → length w.places ≡ places → WorkerFace w
