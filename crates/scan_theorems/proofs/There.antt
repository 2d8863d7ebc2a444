-- What passes a test that the page's end does not pass is a byte: so a state that eats it goes on to the next place.
use Prim.Native.Nat.{ℕ}
use mathlib.Core.Path.{◌≡◌, refl}
use mathlib.Core.Bool.{Bool, true, false, ◌||◌}
use mathlib.Core.List.{[], ◌∷◌}
use lib.Dec.{eqb}
use borrow.Author.Tests.{eqb-true}
use Rattle.base.specs.If.{among}
use Rattle.base.proofs.Choice.{case, or_left, or_right}
use Rattle.base.specs.Range.{within}
use Rattle.base.specs.Byte.{line_feed, small_e, small_i, end_of_page}
use Rattle.char_class.specs.Class.{is_space_or_tab, is_id_start, is_id_cont}
use Rattle.mdx_jsx_attribute.specs.Attribute.{opens_value}
use Rattle.mdx_esm.specs.Esm.{in_word, line_ends}
use Rattle.scan_theorems.proofs.Tests.{clash}

pub there : (f : ℕ → Bool) (b : ℕ) → f end_of_page ≡ false → f b ≡ true → eqb b end_of_page ≡ false
there f b z h = case _ (eqb b end_of_page) (λ e. clash (f end_of_page) (rw (eqb-true b end_of_page e) at h) z) (λ e. e)

-- the byte k, which is not the page's end
pub byte_there : (b k : ℕ) → eqb b k ≡ true → eqb end_of_page k ≡ false → eqb b end_of_page ≡ false
byte_there b k e z = there (λ x. eqb x k) b z e

pub space_there : (b : ℕ) → is_space_or_tab b ≡ true → eqb b end_of_page ≡ false
unfolding is_space_or_tab among
space_there b = there is_space_or_tab b refl

pub start_there : (b : ℕ) → is_id_start b ≡ true → eqb b end_of_page ≡ false
unfolding is_id_start among within
start_there b = there is_id_start b refl

pub cont_there : (b : ℕ) → is_id_cont b ≡ true → eqb b end_of_page ≡ false
unfolding is_id_cont is_id_start among within
cont_there b = there is_id_cont b refl

pub quote_there : (b : ℕ) → opens_value b ≡ true → eqb b end_of_page ≡ false
unfolding among
quote_there b = there opens_value b refl

-- the first letter of an ESM block's word, and any letter of it
pub letter_there : (b : ℕ) → among (small_e ∷ small_i ∷ []) b ≡ true → eqb b end_of_page ≡ false
unfolding among
letter_there b = there (among (small_e ∷ small_i ∷ [])) b refl

pub word_there : (b : ℕ) → in_word b ≡ true → eqb b end_of_page ≡ false
unfolding within
word_there b = there in_word b refl

-- a line goes on
pub line_there : (b : ℕ) → line_ends b ≡ false → eqb b end_of_page ≡ false
unfolding among
line_there b h = or_left (eqb b end_of_page) false (or_right (eqb b line_feed) (eqb b end_of_page || false) h)
