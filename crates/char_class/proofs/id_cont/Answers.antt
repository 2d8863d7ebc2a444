use native.Mathlib.Omega.{arith}
use Prim.Native.Nat.{ℕ, ◌≤◌}
use mathlib.Core.Path.{◌≡◌, refl, ◌∙◌}
use mathlib.Core.Bool.{false}
use borrow.Author.Tests.{ne_eqb}
use Rattle.base.specs.Byte.{dollar_sign, hyphen, digit0, digit9, capital_a, capital_z, underscore, small_a, small_z}
use Rattle.base.specs.If.{among}
use Rattle.base.specs.Range.{within}
use Rattle.base.proofs.Ranges.{above}
use Rattle.char_class.specs.Class.{is_id_start, is_id_cont}
use Rattle.char_class.proofs.Entries.{is_the_class}
use Rattle.char_class.proofs.id_cont.Goals as goal

-- no name goes on past the last byte
past : (b : ℕ) → 256 ≤ b → is_id_cont b ≡ false
unfolding is_id_cont is_id_start among
past b h =
    simp (
      above digit0 digit9 b (omega arith),
      above capital_a capital_z b (omega arith),
      above small_a small_z b (omega arith),
      ne_eqb b hyphen (λ e. omega arith),
      ne_eqb b dollar_sign (λ e. omega arith),
      ne_eqb b underscore (λ e. omega arith),
    )

-- all 256 entries of the table, computed
pub returns : goal.returns
unfolding is_id_cont is_id_start within among
returns c = c.looked_up.ensures ∙ is_the_class _ is_id_cont refl refl past c.args.b
