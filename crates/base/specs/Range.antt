-- A range of numbers, as an arm `9..=13 => ..` of a `match` says it.
use Rattle.std.specs.Prelude.{ℕ, Bool, ◌&&◌, leb}

unfoldable pub within : ℕ → ℕ → ℕ → Bool
within low high x = leb low x && leb x high
