-- The ring of the places: who comes next. docs/SCOPE.md, 'The worker': "Sixteen places, lowest free place first", and "A turn goes to the
-- next running place after the one last served, round the ring".
use Rattle.std.specs.Prelude.{ℕ, zero, suc, ◌+◌, ◌%◌, Bool, cond}
use Rattle.events.specs.Share.{shares}

-- as many as the event buffer has shares
abbrev pub places : ℕ
places = shares

-- the place after j, round the ring
abbrev pub after : ℕ → ℕ
after j = (j + 1) % places

-- the first of n places from j on, round the ring, at which the test holds; `places` where there is none
unfoldable pub seek : (ℕ → Bool) → ℕ → ℕ → ℕ
seek p j zero = places
seek p j (suc n) = cond (p j) j (seek p (after j) n)
