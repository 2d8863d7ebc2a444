-- Two texts are the same, byte for byte.
use Rattle.std.specs.Prelude.{ℕ, Bool, List}
use Rattle.std.specs.Str.{bytes_eq}

unfoldable pub same : List ℕ → List ℕ → Bool
same = bytes_eq
