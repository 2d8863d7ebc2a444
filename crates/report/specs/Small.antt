-- Letters in lower case: every capital becomes the small letter, every other byte stays.
use Rattle.std.specs.Prelude.{ℕ, List, map}
use Rattle.std.specs.Char.{to_ascii_lowercase}

abbrev pub in_small : List ℕ → List ℕ
in_small text = map to_ascii_lowercase text
