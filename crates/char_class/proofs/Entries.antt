-- A table of 256 bits is a class: one test, computed over all of its entries, and no number past the last byte in the class.
use Prim.Native.Nat.{ℕ, ◌≤◌, ◌<◌, ◌/◌, ◌%◌}
use native.Mathlib.Nat.{zero-div}
use native.Mathlib.Decide.{dec_lt}
use native.Mathlib.Omega.{arith}
use mathlib.Core.Path.{◌≡◌, refl, sym, ◌∙◌}
use mathlib.Core.Logic.{by_cases}
use mathlib.Core.Bool.{Bool, true, false, beq}
use mathlib.Core.List.{List}
use lib.ListN.{length, get_or-eq_default}
use Rattle.base.proofs.Ranges.{all, all_hold}
use Rattle.char_class.specs.Lookup.{bit_of, word_of, looked_up}

-- past the last word
pub no_word : (table : List ℕ) (b : ℕ) → length table ≡ 4 → 4 ≤ b / 64 → word_of table b ≡ 0
no_word table b l h = get_or-eq_default table 0 {n = b / 64} (omega arith)

-- past the last byte
pub no_entry : (table : List ℕ) (b : ℕ) → length table ≡ 4 → 256 ≤ b → looked_up table b ≡ false
unfolding looked_up
no_entry table b l h = rw (no_word table b l (omega arith), zero-div)

same : (x y : Bool) → beq x y ≡ true → x ≡ y
same true true e = refl
same true false e = sym e
same false true e = e
same false false e = refl

module _ (table : List ℕ) (class : ℕ → Bool) where
  -- the table and the class say the same of the byte
  abbrev pub agree : ℕ → Bool
  agree b = beq (bit_of (word_of table b) (b % 64)) (class b)

  pub is_the_class : length table ≡ 4 → all agree 0 256 ≡ true → ((b : ℕ) → 256 ≤ b → class b ≡ false) → (b : ℕ) → looked_up table b ≡ class b
  unfolding looked_up
  is_the_class l t past b =
      by_cases (dec_lt b 256) (λ (h : b < 256). same (looked_up table b) (class b) (all_hold agree 256 0 b t (omega arith) (omega arith)))
      (λ h. no_entry table b l (omega (arith, h)) ∙ sym (past b (omega (arith, h))))
