-- What a call on a worker is answered, by number and values, and what it leaves.
--
-- docs/SCOPE.md, 'Language form for each place': "For an answer that is an enum, a definition gives this paper's number and values for each
-- of its cases, and the promises use that definition." It is `said_by`; what a call answers is defined in numbers and values, and the
-- promises compare the two.
use Rattle.std.specs.Prelude.{ℕ, List, [], ◌∷◌}
use Rattle.scan.specs.Answer as single
use Rattle.scan.specs.Answer.{Said, said, refused}
use Rattle.worker.specs.declared.Worker.{Worker}
use Rattle.room.specs.Room.{longest_by}
use Rattle.worker.specs.declared.Reply.{Reply}
use Rattle.worker.specs.declared.Reply.TheVariants.{Started, Placed, Served, Idle, InPage, InScratch, NoPlace, Answered}
use Rattle.worker.specs.declared.Called.{Called}

-- what each case of the enum says. The numbers from 34 on are docs/NUMBERS.md's
abbrev pub said_by : Reply → Said
said_by (Started l) = said 34 (longest_by l)
said_by (Placed i) = said 35 (i ∷ [])
said_by (Served i) = said 36 (i ∷ [])
said_by Idle = said 37 []
said_by (InPage at n) = said 38 (at ∷ n ∷ [])
said_by (InScratch n) = said 39 (n ∷ [])
said_by NoPlace = said 11 []
said_by (Answered a) = single.said_by a

-- what a call leaves: the worker, what it answered, and the memory that it was lent to write to: the event buffer, or a scratch; none, for
-- most calls
pub record Left : Type 0 where
  pub worker : Worker
  pub answer : Said
  pub memory : List ℕ

abbrev pub left : Worker → Said → List ℕ → Left
left w answer memory = record { worker = w; answer = answer; memory = memory }

-- as the code hands it back
abbrev pub left_by : Called → List ℕ → Left
left_by c memory = left c.worker (said_by c.reply) memory

-- 12: the worker and the memory are as they were
abbrev pub refusing : Worker → List ℕ → Left
refusing w memory = left w refused memory
