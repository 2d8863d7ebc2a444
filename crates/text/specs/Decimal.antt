-- A decimal number: one to ten digits, up to 2^32 - 1.
use Rattle.std.specs.Prelude.{ℕ, ◌+◌, ◌-◌, ◌*◌, Bool, List, fold, eqb, ltb, length, Option, Some, None}
use Rattle.std.specs.List.{list_all}
use Rattle.base.specs.Byte.{digit0, digit9, space}
use Rattle.base.specs.If.{when◌then◌else◌}
use Rattle.base.specs.Range.{within}
use Rattle.text.specs.declared.numbers.Field.{Field}
use Rattle.text.specs.Find.{find_from}
use Rattle.text.specs.Part.{part, lies}

abbrev pub largest : ℕ
largest = 4_294_967_295

abbrev pub most_digits : ℕ
most_digits = 10

unfoldable pub all_digits : List ℕ → Bool
all_digits s = list_all (within digit0 digit9) s

-- the number that the digits say after those that said v
unfoldable pub value_from : ℕ → List ℕ → ℕ
value_from v s = fold (λ n d. n * 10 + (d - digit0)) v s

abbrev pub number_of : List ℕ → Option ℕ
number_of s =
    when eqb (length s) 0 then None
    else when ltb most_digits (length s) then None
    else when all_digits s then (when ltb largest (value_from 0 s) then None else Some (value_from 0 s))
    else None

abbrev pub decimal_of : List ℕ → ℕ → ℕ → Option ℕ
decimal_of line from to = when lies line from to then number_of (part line from to) else None

unfoldable pub field_by : Option ℕ → ℕ → Option Field
field_by (Some n) next = Some (record { number = n; next = next })
field_by None next = None

-- the field up to the next space, or up to the line's end
abbrev pub field_of : List ℕ → ℕ → Option Field
field_of line from = field_by (decimal_of line from (find_from line from space)) (find_from line from space + 1)
