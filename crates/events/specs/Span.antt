-- The words that so many events take up.
use Rattle.std.specs.Prelude.{ℕ, ◌*◌, List, take}
use Rattle.events.specs.Words.{width}

-- the words of the first n events of a buffer; all of them, where it has no room for so many
abbrev pub front_of : List ℕ → ℕ → List ℕ
front_of words n = take (n * width) words
