-- The tests come in the definition's order; the part that is lent to `text` is the page.
use Prim.Native.Nat.{ℕ, ◌+◌, ◌-◌}
use native.Mathlib.Omega.{arith}
use mathlib.Core.Path.{◌≡◌, sym, ◌∙◌, ap}
use borrow.Author.Tests.{leb-true}
use mathlib.Core.List.{List}
use lib.ListN.{length, take, drop}
use Rattle.base.proofs.Choice.{picks}
use Rattle.page.specs.Text.{read_text}
use Rattle.page.specs.Page.{checked_by}
use Rattle.page.proofs.check.Goals as goal

pub overflow_add-end : goal.overflow_add-end
overflow_add-end c =
    let a = c.args in
    let inside = leb-true (a.at + a.length) (length a.bytes.now) (sym c.lies_inside.ensures ∙ c.if-lies_inside.true) in
    omega arith

pub slice_bounds-text-end : goal.slice_bounds-text-end
slice_bounds-text-end c =
    let a = c.args in
    leb-true (a.at + a.length) (length a.bytes.now) (sym c.lies_inside.ensures ∙ c.if-lies_inside.true)

pub returns-then-lies_inside : goal.returns-then-lies_inside
returns-then-lies_inside c =
    let a = c.args in
    let taken = c.in_ok-numbers_fit.ensures.taken in
    let whole : a.at + a.length - a.at ≡ a.length = omega arith in
    let part : ℕ → List ℕ = λ n. take n (drop a.at a.bytes.now) in
    let read : c.text.result ≡ checked_by (part a.length) a.start (read_text (part a.length)) =
    c.text.ensures ∙ ap (λ (n : ℕ). checked_by (part n) a.start (read_text (part n))) whole
    in
    search picks depth 12

pub returns : goal.returns
returns c = let taken = c.in_ok-numbers_fit.ensures.taken in search picks depth 12
