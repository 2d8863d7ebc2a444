-- The words that so many events take, and the events that so many words hold.
use Rattle.std.specs.Prelude.{ℕ, ◌*◌, ltb}
use Rattle.base.specs.If.{when◌then◌else◌}
use Rattle.events.specs.Words.{width, room_in}

-- of a buffer of `most` words, those for so many events: all of them, where there are no more
abbrev pub words_for : ℕ → ℕ → ℕ
words_for room most = when ltb room (room_in most) then room * width else most

-- of so many events, as many as a buffer of so many words holds
abbrev pub held_in : ℕ → ℕ → ℕ
held_in count words = when ltb count (room_in words) then count else room_in words
