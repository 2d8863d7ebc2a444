-- A decision, as the definitions of the states write it: what a Rust state function does to its tokenizer and returns.
use Rattle.std.specs.Prelude.{ℕ, true, false, List, [], ◌∷◌}
use Rattle.base.specs.declared.Mark.{Mark}
use Rattle.base.specs.declared.Marks.{Marks}
use Rattle.base.specs.declared.Marks.TheVariants.{Nothing, One, Two, Three, Four}
use Rattle.base.specs.declared.Effect.{Effect}
use Rattle.base.specs.declared.Effect.TheVariants.{Keep, Refuse}
use Rattle.base.specs.declared.Move.{Move}

-- `consume`, and `State::Next(next)`; with an effect on the registers
abbrev pub eat_with : ℕ → Marks → Effect → Move
eat_with next marks effect = record { next = next; eat = true; marks = marks; effect = effect }

abbrev pub eat : ℕ → Marks → Move
eat next marks = eat_with next marks Keep

-- `State::Retry(next)`, or `State::Ok`, `State::Nok` and `State::Error` by their numbers; with an effect on the registers
abbrev pub retry_with : ℕ → Marks → Effect → Move
retry_with next marks effect = record { next = next; eat = false; marks = marks; effect = effect }

abbrev pub retry : ℕ → Marks → Move
retry next marks = retry_with next marks Keep

-- the scan ends with an answer that carries a where-number, here `site`, and a note
abbrev pub refuse : ℕ → ℕ → ℕ → Move
refuse answer site note = retry_with answer Nothing (Refuse site note)

-- the marks in order, and how many there are
abbrev pub list_of : Marks → List Mark
list_of Nothing = []
list_of (One a) = a ∷ []
list_of (Two a b) = a ∷ b ∷ []
list_of (Three a b c) = a ∷ b ∷ c ∷ []
list_of (Four a b c d) = a ∷ b ∷ c ∷ d ∷ []

abbrev pub count_of : Marks → ℕ
count_of Nothing = 0
count_of (One a) = 1
count_of (Two a b) = 2
count_of (Three a b c) = 3
count_of (Four a b c d) = 4
