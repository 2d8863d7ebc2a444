use native.Mathlib.Omega.{arith}
use mathlib.Core.Path.{refl}
use Rattle.scan.proofs.Glided.{furthest_on_page, furthest_onward, before_end, glided}
use Rattle.scan.proofs.gliding.glide.Goals as goal

pub glide_end-requires : goal.glide_end-requires
glide_end-requires c =
    let a = c.args in
    let here = before_end a.page.now a.at (c.requires.3.on_page refl) in (
      omega (arith, c.furthest_place.ensures, furthest_onward _ a.at a.left c.requires.1 here c.requires.2),
      omega (arith, c.furthest_place.ensures, furthest_on_page _ a.at a.left c.requires.1),
    )

pub returns : goal.returns
returns c =
    glided _ _ _ _ _ c.requires.1 c.requires.2 c.requires.3 _ (rw c.furthest_place.ensures at c.glide_end.ensures)
