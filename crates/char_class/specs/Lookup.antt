-- A table of 256 bits, one for each byte, in four words (docs/SCOPE.md, 'Classes': "looked up in a table of 256 entries"). Any four words
-- are one: which bits a class has is no matter of this file.
use Rattle.std.specs.Prelude.{ℕ, ◌/◌, ◌%◌, ◌^◌, Bool, List, eqb, get_or}

-- bit i of a word, the lowest first
abbrev pub bit_of : ℕ → ℕ → Bool
bit_of word i = eqb (word / 2 ^ i % 2) 1

-- the word that has the bit of the byte b; past the last word there is none
abbrev pub word_of : List ℕ → ℕ → ℕ
word_of table b = get_or table (b / 64) 0

-- the bit of the byte b
unfoldable pub looked_up : List ℕ → ℕ → Bool
looked_up table b = bit_of (word_of table b) (b % 64)
