-- Bytes as pairs of hex digits, in lower case.
use Rattle.std.specs.Prelude.{ℕ, ◌+◌, ◌-◌, ◌*◌, ◌/◌, ◌%◌, Bool, ◌&&◌, List, [], ◌∷◌, eqb, leb, length, Option, Some, None, is_some, unwrap_or, Result, Ok, Err}
use Rattle.std.specs.List.{list_all}
use Rattle.std.proofs.lemmas.List.Edits.{sets}
use Rattle.base.specs.Byte.{digit0, digit9, small_a, hyphen}
use Rattle.base.specs.If.{when◌then◌else◌}
use Rattle.base.specs.Range.{within}
use Rattle.text.specs.declared.hexadecimal.HexFault.{HexFault}
use Rattle.text.specs.declared.hexadecimal.HexFault.TheVariants.{BadHex, NoRoom}
use Rattle.text.specs.Part.{part, lies}
use Rattle.text.specs.Word.{same}

abbrev pub small_f : ℕ
small_f = 102

-- the value of a digit
unfoldable pub hex_value : ℕ → Option ℕ
hex_value b =
    when within digit0 digit9 b then Some (b - digit0)
    else when within small_a small_f b then Some (b - small_a + 10)
    else None

abbrev pub is_hex : ℕ → Bool
is_hex b = is_some (hex_value b)

-- the value of a byte that is known to be a digit
abbrev pub digit : ℕ → ℕ
digit b = unwrap_or (hex_value b) 0

-- pairs of digits: an even number of bytes, each of which is one
unfoldable pub pairs : List ℕ → Bool
pairs s = eqb (length s % 2) 0 && list_all is_hex s

unfoldable pub bytes_of : List ℕ → List ℕ
bytes_of [] = []
bytes_of (a ∷ []) = []
bytes_of (a ∷ b ∷ t) = (digit a * 16 + digit b) ∷ bytes_of t

-- the part says bytes
abbrev pub says_bytes : List ℕ → ℕ → ℕ → Bool
says_bytes line from to = lies line from to && pairs (part line from to)

-- how many
abbrev pub count_of : List ℕ → ℕ → ℕ → ℕ
count_of line from to = length (part line from to) / 2

abbrev pub decoded_of : List ℕ → ℕ → ℕ → ℕ → Result ℕ HexFault
decoded_of line from to room =
    when says_bytes line from to then (when leb (count_of line from to) room then Ok (count_of line from to) else Err NoRoom)
    else Err BadHex

abbrev pub buffer_of : List ℕ → ℕ → ℕ → List ℕ → List ℕ
buffer_of line from to out =
    when says_bytes line from to then (when leb (count_of line from to) (length out) then sets out 0 (bytes_of (part line from to)) else out)
    else out

-- the field says that there are no bytes
abbrev pub dashed : List ℕ → ℕ → ℕ → Bool
dashed line from to = lies line from to && same (part line from to) (hyphen ∷ [])

-- a field of bytes: hex, or a dash
abbrev pub read_of : List ℕ → ℕ → ℕ → ℕ → Result ℕ HexFault
read_of line from to room =
    when dashed line from to then Ok 0
    else when leb to from then Err BadHex
    else decoded_of line from to room

abbrev pub read_into : List ℕ → ℕ → ℕ → List ℕ → List ℕ
read_into line from to out =
    when dashed line from to then out
    else when leb to from then out
    else buffer_of line from to out
