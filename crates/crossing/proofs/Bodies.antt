-- What a refusal carries, and what a reply says of a body and of the longest page of a worker: no answer of a single scan says anything.
use Prim.Native.Nat.{ℕ}
use mathlib.Core.Path.{◌≡◌, refl}
use mathlib.Core.List.{[], ◌∷◌}
use lib.ListN.{length, get_or}
use Rattle.std.specs.Prelude.{Option, Some, None}
use Rattle.std.specs.Option.{unwrap_or, is_some}
use Rattle.std.specs.Int.{from_bool}
use Rattle.base.specs.If.{when◌then◌else◌}
use Rattle.base.specs.Table.{find}
use Rattle.batch.specs.Record.{value_in}
use Rattle.scan.specs.declared.Answer.{Answer}
use Rattle.scan.specs.declared.Answer.TheVariants.{
  Done,
  Nok,
  TooLong,
  BadStart,
  BadText,
  NotAscii,
  Eof,
  Unexpected,
  VerdictError,
  VerdictEof,
  Full,
  BadCall,
  Asking,
  Paused,
  Kept,
}
use Rattle.scan.specs.Answer.{said, said_by}
use Rattle.room.specs.Room.{longest_by}
use Rattle.worker.specs.declared.Reply.{Reply}
use Rattle.worker.specs.declared.Reply.TheVariants.{Started, Placed, Served, Idle, InPage, InScratch, NoPlace, Answered}
use Rattle.worker.specs.Reply as worker
use Rattle.crossing.specs.Answers.{carried, answer_numbers, body_carried, body_numbers}
use Rattle.crossing.specs.Workers.{lengths_said}
use Rattle.crossing.specs.Inner.{bare_of, bodiless_of}

-- 12 carries nothing
pub nothing_carried : answer_numbers (said 12 []) ≡ bare_of 12
unfolding answer_numbers carried value_in find when◌then◌else◌
nothing_carried = refl

-- a body, by number and values
pub page_numbers : (at n kind : ℕ) → body_numbers (said 38 (at ∷ n ∷ [])) kind ≡ record { at = at; length = n; number = 38; kind = kind }
unfolding body_numbers body_carried value_in find when◌then◌else◌
page_numbers at n kind = refl

pub scratch_numbers : (n kind : ℕ) → body_numbers (said 39 (n ∷ [])) kind ≡ record { at = 0; length = n; number = 39; kind = kind }
unfolding body_numbers body_carried value_in find when◌then◌else◌
scratch_numbers n kind = refl

pub refused_numbers : (kind : ℕ) → body_numbers (said 12 []) kind ≡ bodiless_of 12 kind
unfolding body_numbers body_carried value_in find when◌then◌else◌
refused_numbers kind = refl

-- ---- none

no_body : (a : Answer) (kind : ℕ) → bodiless_of (said_by a).number kind ≡ body_numbers (said_by a) kind
unfolding body_numbers body_carried value_in find when◌then◌else◌
no_body (Done end t) kind = refl
no_body (Nok t) kind = refl
no_body TooLong kind = refl
no_body BadStart kind = refl
no_body (BadText p) kind = refl
no_body (NotAscii p t) kind = refl
no_body (Eof p site t) kind = refl
no_body (Unexpected p site note t) kind = refl
no_body (VerdictError p number t) kind = refl
no_body (VerdictEof p number t) kind = refl
no_body (Full p t) kind = refl
no_body BadCall kind = refl
no_body (Asking p t) kind = refl
no_body (Paused p t) kind = refl
no_body Kept kind = refl

pub no_body_of :
    (r : Reply) (kind : ℕ)
    → ((at n : ℕ) → r ≡ InPage at n → ⊥) → ((n : ℕ) → r ≡ InScratch n → ⊥)
    → bodiless_of (worker.said_by r).number kind ≡ body_numbers (worker.said_by r) kind
unfolding body_numbers body_carried value_in find when◌then◌else◌
no_body_of (Started l) kind f g = refl
no_body_of (Placed i) kind f g = refl
no_body_of (Served i) kind f g = refl
no_body_of Idle kind f g = refl
no_body_of (InPage at n) kind f g = absurd (f at n refl)
no_body_of (InScratch n) kind f g = absurd (g n refl)
no_body_of NoPlace kind f g = refl
no_body_of (Answered a) kind f g = no_body a kind

no_start : (a : Answer) → [] ≡ lengths_said (said_by a)
unfolding when◌then◌else◌
no_start (Done end t) = refl
no_start (Nok t) = refl
no_start TooLong = refl
no_start BadStart = refl
no_start (BadText p) = refl
no_start (NotAscii p t) = refl
no_start (Eof p site t) = refl
no_start (Unexpected p site note t) = refl
no_start (VerdictError p number t) = refl
no_start (VerdictEof p number t) = refl
no_start (Full p t) = refl
no_start BadCall = refl
no_start (Asking p t) = refl
no_start (Paused p t) = refl
no_start Kept = refl

pub start_says : (l : Option ℕ) → lengths_said (said 34 (longest_by l)) ≡ longest_by l
unfolding when◌then◌else◌
start_says l = refl

pub no_length : (r : Reply) → ((l : Option ℕ) → r ≡ Started l → ⊥) → [] ≡ lengths_said (worker.said_by r)
unfolding when◌then◌else◌
no_length (Started l) f = absurd (f l refl)
no_length (Placed i) f = refl
no_length (Served i) f = refl
no_length Idle f = refl
no_length (InPage at n) f = refl
no_length (InScratch n) f = refl
no_length NoPlace f = refl
no_length (Answered a) f = no_start a

-- the two fields of a start that a longest page, or none, is written in
pub longest_numbers : (o : Option ℕ) → (unwrap_or o 0 ≡ get_or (longest_by o) 0 0) × (from_bool (is_some o) ≡ length (longest_by o))
longest_numbers None = (refl, refl)
longest_numbers (Some n) = (refl, refl)
