-- Calls by numbers are the library's own calls.
use Rattle.base.specs.If.{when◌then◌else◌}
use Rattle.tarredlath.specs.Face.{run_face, give_face, answer_face, body_face, admit_face, turn_face, verdict_face, collect_face, place_body_face, view_face}
use Rattle.face_theorems.specs.Statement.{ScansAreTheLibrarys, WorkersAreTheLibrarys}
use Rattle.face_theorems.proofs.Scans.{verdict_back, verdict_listed_lem, a_scan_comes_back}
use Rattle.face_theorems.proofs.Workers.{a_worker_comes_back}

pub the_face_adds_nothing_to_scans : ScansAreTheLibrarys
unfolding run_face give_face answer_face body_face when◌then◌else◌
the_face_adds_nothing_to_scans s =
    let b = a_scan_comes_back s in
    record {
      run = λ page allowance words. rw (b.listed, b.same);
      give = λ v. rw (verdict_listed_lem v, b.listed, b.same, verdict_back v);
      answer = rw (b.listed, b.same);
      body = λ page scratch. rw (b.listed, b.same);
    }

pub the_face_adds_nothing_to_workers : WorkersAreTheLibrarys
unfolding admit_face turn_face verdict_face collect_face place_body_face view_face when◌then◌else◌
the_face_adds_nothing_to_workers w size =
    let b = a_worker_comes_back w size in
    record {
      admit = λ bytes at n start construct kind flags. rw (b.listed, b.same);
      turn = λ bytes events. rw (b.listed, b.same);
      verdict = λ i v. rw (verdict_listed_lem v, b.listed, b.same, verdict_back v);
      collect = λ i. rw (b.listed, b.same);
      body = λ bytes i scratch. rw (b.listed, b.same);
      view = λ i. rw (b.listed, b.same);
    }
