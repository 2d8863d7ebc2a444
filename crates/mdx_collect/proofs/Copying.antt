-- What the copying of a body keeps from byte to byte.
use Prim.Native.Nat.{ℕ, ◌+◌, ◌-◌, ◌≤◌, ◌<◌}
use native.Mathlib.Omega.{arith}
use mathlib.Core.Path.{◌≡◌, ◌∙◌}
use mathlib.Core.Bool.{true, false}
use mathlib.Core.List.{List}
use lib.ListN.{length, set, length-set}
use lib.Seq.{sets, length-sets}
use Rattle.base.specs.Page.{byte_at}
use Rattle.body_places.specs.Body.{bytes_of, spaces, in_prefix, splits, prefix_after, expression_cells}
use Rattle.mdx_collect.proofs.Laws.{bytes_left, split_over, counted, put_spaces, put_one}

-- what is copied and what is left to copy make the whole, and what is left fits
abbrev pub Kept : List ℕ → ℕ → ℕ → List ℕ → List ℕ → ℕ → ℕ → ℕ → Type 0
Kept page from to scratch₀ scratch at left n =
    (to ≤ length page) ×
    (length scratch ≡ length scratch₀) ×
    (n + length (bytes_left page left at to) ≤ length scratch) ×
    (sets scratch₀ 0 (bytes_of (expression_cells page from to)) ≡ sets scratch n (bytes_left page left at to))

module _ (page : List ℕ) (from to : ℕ) (scratch₀ scratch : List ℕ) (at left n : ℕ) (i : Kept page from to scratch₀ scratch at left n) (h : at < to) (e : in_prefix (byte_at page at) left ≡ false) where
  pub one_copied : (byte next : ℕ) → splits (byte_at page at) left ≡ false → byte_at page at ≡ byte → next ≡ prefix_after (byte_at page at) → Kept page from to scratch₀ (set scratch n byte) (at + 1) next (n + 1)
  one_copied byte next f b p =
      let q = length-set scratch n byte in
      rw p (i.0, q ∙ i.1, omega (arith, q, counted page left at to h e f, i.2), i.3 ∙ put_one page scratch left at to n h e f ∙ rw b)

  pub spaces_put : (k next : ℕ) (out : List ℕ) → splits (byte_at page at) left ≡ true → k ≡ 4 - left → next ≡ n + k → out ≡ sets scratch n (spaces (next - n)) → Kept page from to scratch₀ out (at + 1) 0 next
  spaces_put k next out f w p o =
      let q = length-sets scratch n (spaces (4 - left)) in
      let z : next - n ≡ 4 - left = omega (arith, p, w) in
      let y : next ≡ n + (4 - left) = omega (arith, p, w) in
      rw (o, z, y) (i.0, q ∙ i.1, omega (arith, q, split_over page left at to h e f, i.2), i.3 ∙ put_spaces page scratch left at to n h e f)
