-- Where the page has a byte: before its end, and wherever what is read is not the number that stands for the end.
use Prim.Native.Nat.{ℕ, ◌≤◌, ◌<◌}
use mathlib.Core.Path.{◌≡◌}
use mathlib.Core.Bool.{false}
use mathlib.Core.List.{List}
use lib.ListN.{length, get_or}
use lib.Dec.{ltb, eqb}
use borrow.Author.Tests.{ltb-true, ltb-false, lt-ltb, le-ltb, eqb-false}
use Rattle.base.specs.If.{when◌then◌else◌}
use Rattle.base.proofs.Choice.{case}
use Rattle.base.specs.Byte.{end_of_page}
use Rattle.base.specs.Page.{byte_at}

pub byte_in : (page : List ℕ) (at : ℕ) → at < length page → byte_at page at ≡ get_or page at 0
unfolding byte_at when◌then◌else◌
byte_in page at h = rw (lt-ltb at (length page) h)

pub byte_past : (page : List ℕ) (at : ℕ) → length page ≤ at → byte_at page at ≡ end_of_page
unfolding byte_at when◌then◌else◌
byte_past page at h = rw (le-ltb at (length page) h)

pub place_in_lem : (page : List ℕ) (at : ℕ) → eqb (byte_at page at) end_of_page ≡ false → at < length page
place_in_lem page at h =
    case _ (ltb at (length page)) (λ e. ltb-true at (length page) e)
    (λ e.
    let p = byte_past page at (ltb-false at (length page) e) in
    absurd (eqb-false (byte_at page at) end_of_page h p))
