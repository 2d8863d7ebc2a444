-- The next place of a byte.
use Rattle.std.specs.Prelude.{ℕ, ◌+◌, ◌==◌, List, length, drop, unwrap_or, option_map, position}

-- the first place of b from `from` on, or the line's length
unfoldable pub find_from : List ℕ → ℕ → ℕ → ℕ
find_from line from b = unwrap_or (option_map (λ n. from + n) (position (λ x. x == b) (drop from line))) (length line)
