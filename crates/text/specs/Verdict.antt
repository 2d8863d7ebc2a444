-- A verdict: `o`, `u` and a number, or `e`, a number, `@` and an offset.
use Rattle.std.specs.Prelude.{ℕ, ◌+◌, List, [], ◌∷◌, eqb, ltb, length, Option, Some, None}
use Rattle.base.specs.declared.Verdict.{Verdict}
use Rattle.base.specs.declared.Verdict.TheVariants.{Fine, Unfinished, Wrong}
use Rattle.base.specs.Byte.{at_sign, small_e}
use Rattle.base.specs.If.{when◌then◌else◌}
use Rattle.text.specs.Decimal.{largest, number_of, decimal_of}
use Rattle.text.specs.Find.{find_from}
use Rattle.text.specs.Part.{part, lies}

abbrev pub small_o : ℕ
small_o = 111

abbrev pub small_u : ℕ
small_u = 117

-- a number that is read is at most the largest
unfoldable pub narrow_of : ℕ → ℕ
narrow_of n = when ltb largest n then 0 else n

unfoldable pub unfinished_of : Option ℕ → Option Verdict
unfinished_of (Some n) = Some (Unfinished (narrow_of n))
unfinished_of None = None

unfoldable pub wrong_at_of : Option ℕ → Option ℕ → Option Verdict
wrong_at_of (Some n) (Some o) = Some (Wrong (narrow_of n) o)
wrong_at_of (Some n) None = None
wrong_at_of None o = None

-- the number stands before the first @, and the offset after it
unfoldable pub wrong_of : List ℕ → Option Verdict
wrong_of s = wrong_at_of (decimal_of s 0 (find_from s 0 at_sign)) (decimal_of s (find_from s 0 at_sign + 1) (length s))

-- `o` alone, or the letter and what it asks for
unfoldable pub verdict_in : List ℕ → Option Verdict
verdict_in [] = None
verdict_in (b ∷ s) =
    when eqb b small_o then (when eqb (length s) 0 then Some Fine else None)
    else when eqb b small_u then unfinished_of (number_of s)
    else when eqb b small_e then wrong_of s
    else None

-- the verdict that a part of the line says
unfoldable pub verdict_of : List ℕ → ℕ → ℕ → Option Verdict
verdict_of line from to = when lies line from to then verdict_in (part line from to) else None
