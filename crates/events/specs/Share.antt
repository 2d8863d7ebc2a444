-- The share of a place. docs/SCOPE.md, 'The worker': "The event buffer is cut in sixteen equal shares", and 'Line and column': "A place's
-- share becomes the buffer's words divided by 64, rounded down", events.
use Rattle.std.specs.Prelude.{ℕ, ◌*◌, ◌/◌, List, ◌++◌, take, drop}
use Rattle.events.specs.Words.{width}

-- "sixteen equal shares"
abbrev pub shares : ℕ
shares = 16

-- the words of a share of a buffer of so many words: whole events
abbrev pub share_of : ℕ → ℕ
share_of words = words / (shares * width) * width

-- where share k begins, in a buffer of shares of n words
abbrev pub share_start : ℕ → ℕ → ℕ
share_start n k = k * n

-- share k of a buffer that is cut in shares of n words
abbrev pub share_in : ℕ → ℕ → List ℕ → List ℕ
share_in n k words = take n (drop (share_start n k) words)

-- the buffer with share k replaced
abbrev pub with_share : List ℕ → ℕ → ℕ → List ℕ → List ℕ
with_share words n k part = take (share_start n k) words ++ (part ++ drop n (drop (share_start n k) words))
