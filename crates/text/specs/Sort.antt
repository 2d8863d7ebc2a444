-- What a line is, before anyone reads it.
use Rattle.std.specs.Prelude.{ℕ, ◌-◌, List, eqb, length, get_or}
use Rattle.base.specs.Byte.{carriage_return}
use Rattle.base.specs.If.{when◌then◌else◌}
use Rattle.text.specs.declared.sorts.Sort.{Sort}
use Rattle.text.specs.declared.sorts.Sort.TheVariants.{Comment, Windows, Plain}

abbrev pub number_sign : ℕ
number_sign = 35

-- an empty line and one that begins with `#` say nothing; another that ends in a carriage return is of a Windows file
unfoldable pub sort_of : List ℕ → Sort
sort_of line =
    when eqb (length line) 0 then Comment
    else when eqb (get_or line 0 0) number_sign then Comment
    else when eqb (get_or line (length line - 1) 0) carriage_return then Windows
    else Plain
