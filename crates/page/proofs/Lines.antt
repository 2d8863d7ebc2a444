-- Laws of lines and columns: those of the next offset, how far their numbers can go, and bytes that are one column each.
use Prim.Native.Nat.{ℕ, zero, suc, ◌+◌, ◌*◌, ◌≤◌, ◌<◌}
use native.Mathlib.Numerals.{add-one}
use native.Mathlib.Nat.{add-zero}
use native.Mathlib.Omega.{arith}
use mathlib.Core.Path.{◌≡◌, refl, ap, ◌∙◌}
use mathlib.Core.Bool.{false, ◌||◌}
use mathlib.Core.List.{List}
use lib.Dec.{eqb}
use Rattle.base.specs.Byte.{tab, line_feed}
use Rattle.base.specs.If.{when◌then◌else◌}
use Rattle.base.proofs.Choice.{case, or_left, or_right}
use Rattle.base.specs.Page.{byte_at}
use Rattle.page.specs.Line.{line_of, tab_stop, column_of, line_at, first_line, passed_line, onward}

module _ (page : List ℕ) where
  pub line_first : line_at page 0 ≡ first_line
  unfolding line_of column_of
  line_first = refl

  -- behind a byte
  pub line_passed : (o : ℕ) → line_at page (o + 1) ≡ passed_line (line_at page o) (byte_at page o)
  unfolding line_of column_of when◌then◌else◌
  line_passed o = ap (line_at page) (add-one o) ∙ case _ (eqb (byte_at page o) line_feed) (λ e. rw e) (λ e. rw e)

  -- there are no more lines than bytes before them, and one; and four columns to a byte at the most
  pub line_within : (o : ℕ) → line_of page o ≤ o + 1
  unfolding line_of when◌then◌else◌
  line_within zero = omega arith
  line_within (suc o) = case _ (eqb (byte_at page o) line_feed) (λ e. rw e (omega (arith, line_within o))) (λ e. rw e (omega (arith, line_within o)))

  stop_near : (c : ℕ) → tab_stop c ≤ c + 4
  stop_near c = omega arith

  pub column_within : (o : ℕ) → column_of page o ≤ 4 * o + 1
  unfolding column_of when◌then◌else◌
  column_within zero = omega arith
  column_within (suc o) =
      let before = column_within o in
      case _ (eqb (byte_at page o) line_feed) (λ e. rw e (omega arith))
      (λ e. rw e (case _ (eqb (byte_at page o) tab) (λ f. rw f (omega (arith, stop_near (column_of page o)))) (λ f. rw f (omega arith))))

  -- n bytes that are neither line feeds nor tabs: n columns further
  pub plain_line : (o n : ℕ) → ((i : ℕ) → i < n → (eqb (byte_at page (o + i)) line_feed || eqb (byte_at page (o + i)) tab) ≡ false) → line_at page (o + n) ≡ onward n (line_at page o)
  unfolding when◌then◌else◌
  plain_line o zero h = rw (add-zero, add-zero)
  plain_line o (suc n) h =
      let e : o + suc n ≡ o + n + 1 = omega arith in
      let c : column_of page o + n + 1 ≡ column_of page o + suc n = omega arith in
      let f = h n (omega arith) in
      ap (line_at page) e
      ∙ line_passed (o + n)
      ∙ rw (or_left (eqb (byte_at page (o + n)) line_feed) _ f, or_right (eqb (byte_at page (o + n)) line_feed) _ f)
      (ap (onward 1) (plain_line o n (λ i l. h i (omega arith))) ∙ rw c)
