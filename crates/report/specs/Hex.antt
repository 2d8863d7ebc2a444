-- Bytes as pairs of hex digits, in lower case; `-` where there are none.
use Rattle.std.specs.Prelude.{ℕ, ◌+◌, ◌/◌, ◌%◌, List, [], ◌∷◌, ltb}
use Rattle.base.specs.Byte.{digit0, hyphen}
use Rattle.base.specs.If.{when◌then◌else◌}

-- of a number below 16
unfoldable pub digit_of : ℕ → ℕ
digit_of n = when ltb n 10 then digit0 + n else 87 + n

unfoldable pub hex_of : List ℕ → List ℕ
hex_of [] = []
hex_of (b ∷ t) = digit_of (b / 16) ∷ digit_of (b % 16) ∷ hex_of t

-- a field of bytes
unfoldable pub field_of : List ℕ → List ℕ
field_of [] = hyphen ∷ []
field_of (b ∷ t) = hex_of (b ∷ t)
