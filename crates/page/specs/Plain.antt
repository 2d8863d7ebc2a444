-- Bytes that the pass over a page need not look at one by one. No promise to a user of the library cites these.
use Rattle.std.specs.Prelude.{ℕ, ◌≤◌, ◌<◌, ◌≡◌, Bool, true, List, length, get_or}
use Rattle.base.specs.Range.{within}

-- a character by itself, of one column, and no carriage return. Other bytes are too, 11 and 12 among them, but one range is asked quicker.
abbrev pub is_plain : ℕ → Bool
is_plain b = within 14 127 b

-- every byte from one place of the page to another is plain
pub record PlainTo (page : List ℕ) (from end : ℕ) : Type 0 where
  pub onward : from ≤ end
  pub in_page : end ≤ length page
  pub each : (i : ℕ) → from ≤ i → i < end → is_plain (get_or page i 0) ≡ true
