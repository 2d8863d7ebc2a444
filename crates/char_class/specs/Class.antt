-- The classes of a byte, as docs/SCOPE.md, 'Classes', gives them: "White space is 9 to 13 and 32. A name starts with a letter,
-- `$` or `_` and goes on with those, digits and `-`." A byte is its number; the page's end has a number of its own, which is in
-- no class.
use Rattle.std.specs.Prelude.{ℕ, Bool, ◌||◌, [], ◌∷◌, eqb}
use Rattle.base.specs.If.{among}
use Rattle.base.specs.Range.{within}
use Rattle.base.specs.Byte.{tab, carriage_return, space, dollar_sign, hyphen, digit0, digit9, capital_a, capital_z, underscore, small_a, small_z}

-- es_whitespace ::= ?
unfoldable pub is_whitespace : ℕ → Bool
is_whitespace b = within tab carriage_return b || eqb b space

-- space_or_tab ::= 1*('\t' | ' ')
unfoldable pub is_space_or_tab : ℕ → Bool
is_space_or_tab b = among (tab ∷ space ∷ []) b

-- identifier_start ::= es_identifier_start
unfoldable pub is_id_start : ℕ → Bool
is_id_start b = within capital_a capital_z b || within small_a small_z b || among (dollar_sign ∷ underscore ∷ []) b

-- identifier_part ::= es_identifier_part | '-'
unfoldable pub is_id_cont : ℕ → Bool
is_id_cont b = within digit0 digit9 b || eqb b hyphen || is_id_start b
