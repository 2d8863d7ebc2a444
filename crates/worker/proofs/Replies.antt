-- A reply is known by its number and its values: no two cases of the enum say the same.
use Prim.Native.Nat.{ℕ}
use mathlib.Core.Path.{◌≡◌, refl, sym, ap, ◌∙◌}
use mathlib.Core.List.{List, [], ◌∷◌}
use lib.ListN.{get_or}
use Rattle.base.specs.If.{when◌then◌else◌}
use Rattle.base.specs.Table.{find}
use Rattle.scan.specs.declared.Answer.{Answer}
use Rattle.scan.specs.declared.Answer.TheVariants.{Done, Nok, TooLong, BadStart, BadText, NotAscii, Eof, Unexpected, VerdictError, VerdictEof, Full, BadCall, Asking, Paused, Kept}
use Rattle.scan.specs.Answer as single
use Rattle.scan.specs.Answer.{Said}
use Rattle.scan.proofs.Saids as single-saids
use Rattle.scan.proofs.Saids.{answer_said}
use Rattle.room.proofs.Saids.{longest_said, longest_back}
use Rattle.worker.specs.declared.Reply.{Reply}
use Rattle.worker.specs.declared.Reply.TheVariants.{Started, Placed, Served, Idle, InPage, InScratch, NoPlace, Answered}
use Rattle.worker.specs.Reply.{said_by}

-- the numbers that are the worker's alone, read back
abbrev table : List ℕ → (ℕ → ℕ) → List (ℕ × Reply)
table values v =
    (34, Started (longest_said values))
    ∷ (35, Placed (v 0))
    ∷ (36, Served (v 0))
    ∷ (37, Idle)
    ∷ (38, InPage (v 0) (v 1))
    ∷ (39, InScratch (v 0))
    ∷ (11, NoPlace)
    ∷ []

-- every other number is a single scan's
pub reply_said : Said → Reply
reply_said a = find a.number (table a.values (λ k. get_or a.values k 0)) (Answered (answer_said a))

answered : (a : Answer) → reply_said (single.said_by a) ≡ Answered (answer_said (single.said_by a))
unfolding reply_said find when◌then◌else◌
answered (Done end t) = refl
answered (Nok t) = refl
answered TooLong = refl
answered BadStart = refl
answered (BadText p) = refl
answered (NotAscii p t) = refl
answered (Eof p site t) = refl
answered (Unexpected p site note t) = refl
answered (VerdictError p number t) = refl
answered (VerdictEof p number t) = refl
answered (Full p t) = refl
answered BadCall = refl
answered (Asking p t) = refl
answered (Paused p t) = refl
answered Kept = refl

pub read_back : (r : Reply) → reply_said (said_by r) ≡ r
unfolding reply_said find when◌then◌else◌
read_back (Started l) = ap Started (longest_back l)
read_back (Placed i) = refl
read_back (Served i) = refl
read_back Idle = refl
read_back (InPage at n) = refl
read_back (InScratch n) = refl
read_back NoPlace = refl
read_back (Answered a) = answered a ∙ ap Answered (single-saids.read_back a)

-- so a promise that says number and values leaves no choice of the reply
pub one_reply_for_each_number : (r t : Reply) → said_by r ≡ said_by t → r ≡ t
one_reply_for_each_number r t e = sym (read_back r) ∙ ap reply_said e ∙ read_back t
