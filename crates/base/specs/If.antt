-- A choice by a test, and by one of several numbers. Every definition of this repository chooses with `when◌then◌else◌`, which is shut: a goal
-- shows the choice as it was written (proofs/Choice.antt has the laws).
use Rattle.std.specs.Prelude.{ℕ, Bool, true, false, ◌||◌, List, [], ◌∷◌, eqb}

infixr 10 when◌then◌else◌
unfoldable pub when◌then◌else◌ : {A : Type 0} → Bool → A → A → A
when true then x else y = x
when false then x else y = y

-- x is one of the numbers ks, as an arm `46 | 47 | 58 => ..` of a `match` says it
unfoldable pub among : List ℕ → ℕ → Bool
among [] x = false
among (k ∷ ks) x = eqb x k || among ks x
