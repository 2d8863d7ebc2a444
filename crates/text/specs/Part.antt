-- A part of a line: the bytes from one place up to another, which is not in it.
use Rattle.std.specs.Prelude.{ℕ, ◌-◌, Bool, ◌&&◌, List, leb, length, take, drop}

abbrev pub part : List ℕ → ℕ → ℕ → List ℕ
part line from to = take (to - from) (drop from line)

-- the two places are in order, and in the line
abbrev pub lies : List ℕ → ℕ → ℕ → Bool
lies line from to = leb from to && leb to (length line)
