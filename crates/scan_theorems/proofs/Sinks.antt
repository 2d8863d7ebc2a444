-- A decision of an expression or a tag that pays for itself: it ends the scan, or eats a byte, or pays its price out of the rank.
use Prim.Native.Nat.{ℕ, ◌+◌, ◌≤◌}
use mathlib.Core.Path.{◌≡◌, refl}
use mathlib.Core.Bool.{Bool, true, false}
use native.Mathlib.Omega.{arith}
use lib.Dec.{leb, eqb}
use Rattle.base.specs.If.{when◌then◌else◌}
use Rattle.base.proofs.Choice.{if_is}
use Rattle.base.specs.Range.{within}
use Rattle.base.specs.Table.{find}
use Rattle.base.specs.Byte.{line_feed, end_of_page}
use Rattle.base.specs.State.{bad_call}
use Rattle.base.specs.declared.Marks.{Marks}
use Rattle.base.specs.declared.Effect.{Effect}
use Rattle.base.specs.declared.Effect.TheVariants.{Keep, Deeper, Shallower, Open, PrefixBegins, PrefixGoesOn, PrefixEnds, PrefixInTab, Quote, Return, Save, Restore, Last, Fault, Refuse}
use Rattle.base.specs.declared.Move.{Move}
use Rattle.mdx_jsx.specs.Jsx.{whitespace_or_end, whitespace_here}
use Rattle.tokenizer.specs.Moved.{changed}
use Rattle.tokenizer.specs.Ranges.{is_return}
use Rattle.tokenizer.specs.declared.Regs.{Regs}
use Rattle.scan_theorems.proofs.Price.{Prices, price, price_least}
use Rattle.scan_theorems.proofs.Rank.{awaits, rank, returns}

-- no look-ahead ends, so that the place of the next step is where this one leaves off
abbrev pub stays : Effect → Bool
stays Keep = true
stays Deeper = true
stays Shallower = true
stays Open = true
stays PrefixBegins = true
stays PrefixGoesOn = true
stays PrefixEnds = true
stays (PrefixInTab passed) = true
stays (Quote b) = true
stays (Return name) = true
stays Save = true
stays Restore = false
stays (Last n) = true
stays (Fault n place) = true
stays (Refuse site note) = true

-- the decision m at the byte b, where the rank is k; a step that does not eat is judged with the registers that it leaves. What eats is
-- stuck at the page's end, and goes on there
pub data Sinks (p : Prices) (at : ℕ) (r : Regs) (b k : ℕ) (m : Move) : Type 0 where
  ends : leb m.next bad_call ≡ true → price p m.marks ≤ k → Sinks p at r b k m
  eats : stays m.effect ≡ true → m.eat ≡ true → eqb b end_of_page ≡ false → awaits m.next ≡ false → price p m.marks ≤ k → Sinks p at r b k m
  falls : stays m.effect ≡ true → m.eat ≡ false → price p m.marks + rank p m.next b (changed m.effect at at r) ≤ k → Sinks p at r b k m
  stuck : stays m.effect ≡ true → awaits m.next ≡ false → price p m.marks + rank p m.next b (changed m.effect at at r) ≤ k → Sinks p at r b k m

-- no rank is less than the price of a step without events
pub pays : {p : Prices} {at : ℕ} {r : Regs} {b k : ℕ} {m : Move} → Sinks p at r b k m → p.none ≤ k
pays {p} {m} (ends h g) = omega (arith, price_least p m.marks)
pays {p} {m} (eats s e n a g) = omega (arith, price_least p m.marks)
pays {p} {m} (falls s e g) = omega (arith, price_least p m.marks)
pays {p} {m} (stuck s a g) = omega (arith, price_least p m.marks)

-- what sinks by either choice sinks
pub pick : {p : Prices} {at : ℕ} {r : Regs} {b k : ℕ} {t : Bool} {x y : Move} → (t ≡ true → Sinks p at r b k x) → (t ≡ false → Sinks p at r b k y) → Sinks p at r b k (when t then x else y)
pick {p} {at} {r} {b} {k} {t} {x} {y} = if_is Move (Sinks p at r b k) t x y

-- the white space that may stand here is looked for: what it returns to costs more than white space does
pub spaced : {p : Prices} {at : ℕ} {r : Regs} {b k : ℕ} {marks : Marks} (back : ℕ) → p.none + p.three ≤ returns p back → price p marks + (p.none + returns p back) ≤ k → Sinks p at r b k (whitespace_here marks back)
unfolding rank is_return within find when◌then◌else◌
spaced {p} {b} {k} {marks} back h g =
    falls refl refl
    (if_is ℕ (λ (x : ℕ). price p marks + x ≤ k) (eqb b line_feed) p.two _ (λ e. omega (arith, p))
    (λ e. if_is ℕ (λ (x : ℕ). price p marks + x ≤ k) (whitespace_or_end b) (p.one + p.none) _ (λ e. omega (arith, p)) (λ e. g)))
