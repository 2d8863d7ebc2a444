-- What `same` means.
use Prim.Native.Nat.{ℕ}
use mathlib.Core.Path.{◌≡◌}
use mathlib.Core.Bool.{true}
use mathlib.Core.Logic.{◌↔◌}
use mathlib.Core.List.{List}
use Rattle.std.proofs.lemmas.Slice.Eq.{bytes_eq-Decides}
use Rattle.text.specs.Word.{same}

-- `same` is the equality of texts
pub same_is : (s w : List ℕ) → (same s w ≡ true) ↔ (s ≡ w)
unfolding same
same_is s w = bytes_eq-Decides s w
