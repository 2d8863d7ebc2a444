-- How long a scratch is always enough: a body is longer than the part of the page that it stands for by a half at the most. A line feed and a tab
-- give three bytes, a line feed, a space and a tab give four, and no other bytes give more than they are.
use Prim.Native.Nat.{ℕ, zero, suc, ◌+◌, ◌-◌, ◌*◌, ◌≤◌}
use native.Mathlib.Omega.{arith}
use mathlib.Core.Path.{◌≡◌, refl, sym, ap, ◌∙◌}
use mathlib.Core.Bool.{true}
use mathlib.Core.List.{List, ◌++◌}
use lib.Dec.{leb, eqb}
use lib.ListN.{length, length-append}
use borrow.Author.Tests.{leb-false}
use Rattle.base.specs.Byte.{line_feed}
use Rattle.base.specs.If.{when◌then◌else◌}
use Rattle.base.proofs.Choice.{if_is, case}
use Rattle.base.specs.Page.{byte_at}
use Rattle.body_places.specs.Body.{Cell, cells_at, prefix_after, in_prefix, splits, spaces, drift_at, cells_from, expression_cells}
use Rattle.scan.specs.Answer.{Said, refused}
use Rattle.scan_theorems.proofs.Tests.{clash}
use Rattle.mdx_collect.specs.Collect.{first, unbroken, asked, Collected, collect_of, ScratchEnough}
use Rattle.mdx_collect.proofs.Calls.{asks}
use Rattle.mdx_collect.proofs.Laws.{bytes_at, bytes_long, spaces_long}

-- what may still come of a line prefix, and how many half bytes the body may be ahead by for it
data Credit : ℕ → ℕ → Type 0 where
  none : Credit 0 0
  one : Credit 1 3
  two : Credit 2 1

cells_at_long : (n at : ℕ) → length (cells_at at (spaces n)) ≡ n
cells_at_long n at = sym (bytes_long (cells_at at (spaces n))) ∙ ap length (bytes_at (spaces n) at) ∙ spaces_long n

module _ (page : List ℕ) where
  -- a byte that is kept: the credit of what may come behind it
  abbrev Most : ℕ → ℕ → ℕ → ℕ → ℕ → Type 0
  Most n left drift at credit = 2 * length (cells_from page left drift at n) ≤ 3 * n + credit

  behind : (n drift at b : ℕ) → ((left credit : ℕ) → Credit left credit → Most n left drift at credit) → Most n (prefix_after b) drift at 1
  unfolding when◌then◌else◌
  behind n drift at b f = case _ (eqb b line_feed) (λ e. rw e (f 2 1 two)) (λ e. rw e (let m = f 0 0 none in omega (arith, m)))

  split_long : (k at : ℕ) (rest : List Cell) → length (cells_at at (spaces k) ++ rest) ≡ k + length rest
  split_long k at rest = omega (arith, length-append (cells_at at (spaces k)) rest, cells_at_long k at)

  -- one place more, by what holds of those behind it
  module _ (n at : ℕ) (f : (left drift credit : ℕ) → Credit left credit → Most n left drift (at + 1) credit) where
    skipped : (left drift credit : ℕ) → Credit left credit → in_prefix (byte_at page at) left ≡ true → 2 * length (cells_from page (left - 1) drift (at + 1) n) ≤ 3 * suc n + credit
    skipped left drift credit none e = clash _ e refl
    skipped left drift credit one e = let m = f 0 drift 0 none in omega (arith, m)
    skipped left drift credit two e = let m = f 1 drift 3 one in omega (arith, m)

    parted : (left credit : ℕ) → Credit left credit → splits (byte_at page at) left ≡ true → 2 * length (cells_at at (spaces (4 - left)) ++ cells_from page 0 (4 - left - 1) (at + 1) n) ≤ 3 * suc n + credit
    parted left credit none e = clash _ e refl
    parted left credit one e = let m = f 0 2 0 none in omega (arith, m, split_long 3 at (cells_from page 0 2 (at + 1) n))
    parted left credit two e = let m = f 0 1 0 none in omega (arith, m, split_long 2 at (cells_from page 0 1 (at + 1) n))

  most : (n left drift at credit : ℕ) → Credit left credit → Most n left drift at credit
  unfolding cells_from
  most zero left drift at credit k = omega arith
  most (suc n) left drift at credit k =
      let b = byte_at page at in
      let f : (l d c : ℕ) → Credit l c → Most n l d (at + 1) c = λ l d c j. most n l d (at + 1) c j in
      if_is (List Cell) (λ (l : List Cell). 2 * length l ≤ 3 * suc n + credit) (in_prefix b left) _ _ (λ e. skipped n at f left drift credit k e)
      (λ e.
      if_is (List Cell) (λ (l : List Cell). 2 * length l ≤ 3 * suc n + credit) (splits b left) _ _ (λ s. parted n at f left credit k s)
      (λ s. let m = behind n (drift_at b drift) (at + 1) b (λ l c j. f l (drift_at b drift) c j) in omega (arith, m)))

  -- of an expression between two places
  pub body_most : (from to : ℕ) → to ≤ length page → 2 * length (expression_cells page from to) ≤ 3 * length page
  body_most from to h = let m = most (to - from) 0 0 from 0 none in omega (arith, m)

-- what is not refused has another number than 12
abbrev Given : Collected → Type 0
Given c = (c.answer ≡ refused) → ⊥

given : (a : Said) → (a.number ≡ 12 → ⊥) → a ≡ refused → ⊥
given a h e = h (ap (λ (x : Said). x.number) e)

pub a_scratch_is_enough : ScratchEnough
unfolding collect_of
a_scratch_is_enough page s scratch a h =
    let k = asks s (length page) a in
    let cells = expression_cells page (first s) s.tokenizer.at in
    if_is Collected Given (asked s (length page)) _ _
    (λ p.
    if_is Collected Given (unbroken page s) _ _ (λ u. given _ (λ z. omega (arith, z)))
    (λ u.
    if_is Collected Given (leb (length cells) (length scratch)) _ _ (λ l. given _ (λ z. omega (arith, z)))
    (λ l. absurd (omega (arith, leb-false (length cells) (length scratch) l, body_most page (first s) s.tokenizer.at k.at, h)))))
    (λ p. clash _ a p)
