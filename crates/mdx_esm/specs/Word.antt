-- The word that an ESM block begins with: docs/SCOPE.md, 'ESM': "the lower-case word `export` or `import`".
use Rattle.std.specs.Prelude.{ℕ, ◌+◌, ◌-◌, Bool, true, ◌&&◌, ◌||◌, List, [], ◌∷◌, eqb}
use Rattle.base.specs.Byte.{small_e, small_i}
use Rattle.base.specs.Page.{byte_at}

-- the letters of the two words; `e` and `i` begin them
abbrev pub small_m : ℕ
small_m = 109

abbrev pub small_o : ℕ
small_o = 111

abbrev pub small_p : ℕ
small_p = 112

abbrev pub small_r : ℕ
small_r = 114

abbrev pub small_t : ℕ
small_t = 116

abbrev pub small_x : ℕ
small_x = 120

abbrev pub export : List ℕ
export = small_e ∷ small_x ∷ small_p ∷ small_o ∷ small_r ∷ small_t ∷ []

abbrev pub import : List ℕ
import = small_i ∷ small_m ∷ small_p ∷ small_o ∷ small_r ∷ small_t ∷ []

-- both have six letters
abbrev pub word_size : ℕ
word_size = 6

-- the page has the word at a place
unfoldable pub spells : List ℕ → List ℕ → ℕ → Bool
spells page [] at = true
spells page (b ∷ word) at = eqb (byte_at page at) b && spells page word (at + 1)

-- the bytes from `start` up to `at` are one of the two words: the Rust's `matches!(slice.as_str(), "export" | "import")`
unfoldable pub is_word : List ℕ → ℕ → ℕ → Bool
is_word page start at = eqb (at - start) word_size && (spells page export start || spells page import start)
