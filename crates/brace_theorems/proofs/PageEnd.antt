-- What stands for the page's end is read at its end, and nowhere before: no byte has that number.
use Prim.Native.Nat.{ℕ, ◌≤◌}
use native.Mathlib.Omega.{arith}
use mathlib.Core.Path.{◌≡◌}
use mathlib.Core.Bool.{true}
use mathlib.Core.List.{List}
use lib.Dec.{ltb, eqb}
use lib.ListN.{length}
use borrow.Author.Tests.{ltb-true, ltb-false, eqb-true}
use Rattle.base.proofs.Choice.{case}
use Rattle.base.specs.Byte.{end_of_page}
use Rattle.base.specs.Page.{byte_at}
use Rattle.body_places.proofs.Place.{byte_in}
use Rattle.page.proofs.Bytes.{Bytes, byte_small}

pub end_is_end : (page : List ℕ) (at : ℕ) → Bytes page → eqb (byte_at page at) end_of_page ≡ true → length page ≤ at
end_is_end page at p e =
    case _ (ltb at (length page))
    (λ l. absurd (omega (arith, byte_in page at (ltb-true at (length page) l), byte_small page at p, eqb-true (byte_at page at) end_of_page e)))
    (λ l. ltb-false at (length page) l)
