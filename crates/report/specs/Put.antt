-- Text put into a lent buffer, piece by piece, each whole or not at all.
use Rattle.std.specs.Prelude.{ℕ, ◌+◌, ◌-◌, min, List, [], ◌∷◌, ◌++◌, ltb, length}
use Rattle.std.proofs.lemmas.List.Edits.{sets}
use Rattle.base.specs.If.{when◌then◌else◌}

-- what came of it: the place past what was put, and the buffer
pub record Put : Type 0 where
  pub place : ℕ
  pub buffer : List ℕ

abbrev pub outcome : ℕ → List ℕ → Put
outcome place buffer = record { place = place; buffer = buffer }

-- a place past the end counts as the end
abbrev pub in_room : ℕ → ℕ → ℕ
in_room room at = min at room

-- the pieces one after the other, from a place inside the buffer on; one that does not fit is left out
unfoldable pub put_from : List ℕ → ℕ → List (List ℕ) → Put
put_from out at [] = outcome at out
put_from out at (piece ∷ pieces) =
    when ltb (length out - at) (length piece) then put_from out at pieces
    else put_from (sets out at piece) (at + length piece) pieces

-- from any place on
unfoldable pub put_of : List ℕ → ℕ → List (List ℕ) → Put
put_of out at pieces = put_from out (in_room (length out) at) pieces

-- the whole text; where it fits, it is what stands there (`whole_put` in proofs/)
abbrev pub text_of : List (List ℕ) → List ℕ
text_of [] = []
text_of (piece ∷ pieces) = piece ++ text_of pieces
