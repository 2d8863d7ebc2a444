-- A number's decimal digits, as few as it has.
use Rattle.std.specs.Prelude.{ℕ, zero, suc, ◌/◌, ◌%◌, List, [], ◌∷◌, ◌++◌, ltb, Option, Some, None}
use Rattle.base.specs.Byte.{space}
use Rattle.base.specs.If.{when◌then◌else◌}
use Rattle.io.specs.Digits.{hex_digit_ascii}

-- the digits of a number that has at most k, the highest first
unfoldable pub digits_up_to : ℕ → ℕ → List ℕ
digits_up_to zero n = []
digits_up_to (suc k) n =
    when ltb n 10 then hex_digit_ascii n ∷ []
    else digits_up_to k (n / 10) ++ (hex_digit_ascii (n % 10) ∷ [])

-- no number n has more than n + 1 digits
unfoldable pub decimal : ℕ → List ℕ
decimal n = digits_up_to (suc n) n

-- a space and a number
abbrev pub spaced_pieces : ℕ → List (List ℕ)
spaced_pieces n = (space ∷ []) ∷ decimal n ∷ []

-- the same of a number that is carried, else nothing
abbrev pub value_pieces : Option ℕ → List (List ℕ)
value_pieces None = []
value_pieces (Some n) = spaced_pieces n

-- a joint, as `:`, and the number
abbrev pub joined_pieces : List ℕ → ℕ → List (List ℕ)
joined_pieces joint n = joint ∷ decimal n ∷ []
