-- A decision that sinks is paid for, in an expression or a tag: a byte that is eaten pays for the steps at the next one.
use Prim.Native.Nat.{ℕ, ◌+◌, ◌≤◌, ◌<◌}
use mathlib.Core.Path.{◌≡◌, refl}
use mathlib.Core.Bool.{true, false, ◌&&◌}
use mathlib.Core.List.{List}
use native.Mathlib.Omega.{arith}
use lib.ListN.{length}
use lib.Dec.{leb, ltb, eqb}
use borrow.Author.Tests.{ltb-true, lt-ltb}
use Rattle.base.specs.If.{when◌then◌else◌}
use Rattle.base.proofs.Choice.{case, both, if_is}
use Rattle.base.specs.Page.{byte_at}
use Rattle.base.specs.State.{bad_call}
use Rattle.base.specs.declared.Effect.{Effect}
use Rattle.base.specs.declared.Effect.TheVariants.{Keep, Deeper, Shallower, Open, PrefixBegins, PrefixGoesOn, PrefixEnds, PrefixInTab, Quote, Return, Save, Restore, Last, Fault, Refuse}
use Rattle.base.specs.declared.Move.{Move}
use Rattle.tokenizer.specs.Moved.{next_place, place_after, changed, moved}
use Rattle.tokenizer.specs.Ranges.{esm}
use Rattle.tokenizer.specs.declared.Regs.{Regs}
use Rattle.tokenizer.specs.declared.Tokenizer.{Tokenizer}
use Rattle.scan_theorems.proofs.Tests.{clash}
use Rattle.scan_theorems.proofs.Price.{Prices, price}
use Rattle.scan_theorems.proofs.Rank.{awaits, rank, rank_small}
use Rattle.scan_theorems.proofs.Sinks.{Sinks, ends, eats, falls, stuck, stays}
use Rattle.body_places.proofs.Place.{place_in_lem}
use Rattle.scan_theorems.proofs.Due.{ahead, ahead_step, due_of, due, due_over, due_on}

pub stay : (e : Effect) (next saved : ℕ) → stays e ≡ true → place_after e next saved ≡ next
stay Keep next saved h = refl
stay Deeper next saved h = refl
stay Shallower next saved h = refl
stay Open next saved h = refl
stay PrefixBegins next saved h = refl
stay PrefixGoesOn next saved h = refl
stay PrefixEnds next saved h = refl
stay (PrefixInTab passed) next saved h = refl
stay (Quote b) next saved h = refl
stay (Return name) next saved h = refl
stay Save next saved h = refl
stay Restore next saved h = clash false h refl
stay (Last n) next saved h = refl
stay (Fault n place) next saved h = refl
stay (Refuse site note) next saved h = refl

-- no more is due than for each byte that is left, and for the page's end
pub due_most : (p : Prices) (page : List ℕ) (construct name at : ℕ) (r : Regs) → eqb construct esm ≡ false → awaits name ≡ false → due_of p page construct name at r ≤ ahead p page at + p.most
unfolding due_of
due_most p page construct name at r c a =
    if_is ℕ (λ (k : ℕ). k ≤ ahead p page at + p.most) (leb name bad_call) _ _ (λ e. omega arith)
    (λ e. if_is ℕ (λ (k : ℕ). k ≤ ahead p page at + p.most) (eqb construct esm) _ _ (λ f. clash (eqb construct esm) f c)
    (λ f. omega (arith, rank_small p name (byte_at page at) r a)))

module _ (p : Prices) (page : List ℕ) (t : Tokenizer) (size : length page ≡ t.job.length) (c : eqb t.job.construct esm ≡ false) (runs : leb t.state bad_call ≡ false) where
  -- the decision is paid for
  abbrev Paid : Move → Type 0
  Paid m = due p page (moved t m) + price p m.marks ≤ due p page t

  stepped : (m : Move) (next : ℕ) → next_place t.at m.eat t.job.length ≡ next → stays m.effect ≡ true → due p page (moved t m) ≡ due_of p page t.job.construct m.next next (changed m.effect t.at next t.regs)
  unfolding due moved
  stepped m next e s = rw (stay m.effect (next_place t.at m.eat t.job.length) t.regs.saved s, e)

  here : due p page t ≡ ahead p page t.at + rank p t.state (byte_at page t.at) t.regs
  unfolding due
  here = due_on p page t.job.construct t.state t.at t.regs c runs

  abbrev k : ℕ
  k = rank p t.state (byte_at page t.at) t.regs

  eaten : (m : Move) → stays m.effect ≡ true → m.eat ≡ true → awaits m.next ≡ false → price p m.marks ≤ k → t.at < length page → Paid m
  unfolding when◌then◌else◌
  eaten m s e a g l =
      let next : next_place t.at m.eat t.job.length ≡ t.at + 1 = rw (e, lt-ltb t.at t.job.length (omega arith)) in
      omega (arith, here, ahead_step p page t.at l, stepped m (t.at + 1) next s, due_most p page t.job.construct m.next (t.at + 1) (changed m.effect t.at (t.at + 1) t.regs) c a)

  -- no byte is eaten
  stood : (m : Move) → stays m.effect ≡ true → next_place t.at m.eat t.job.length ≡ t.at → price p m.marks + rank p m.next (byte_at page t.at) (changed m.effect t.at t.at t.regs) ≤ k → Paid m
  unfolding moved
  stood m s next h =
      case _ (leb m.next bad_call) (λ f. omega (arith, here, due_over p page (moved t m) f))
      (λ f. omega (arith, here, stepped m t.at next s, due_on p page t.job.construct m.next t.at (changed m.effect t.at t.at t.regs) c f))

  pub judged : (m : Move) → Sinks p t.at t.regs (byte_at page t.at) k m → Paid m
  unfolding when◌then◌else◌ moved
  judged m (ends h g) = omega (arith, here, due_over p page (moved t m) h)
  judged m (eats s e n a g) = eaten m s e a g (place_in_lem page t.at n)
  judged m (falls s e h) = stood m s (rw e) h
  judged m (stuck s a h) =
      case _ (m.eat && ltb t.at t.job.length)
      (λ e. let b = both m.eat (ltb t.at t.job.length) e in
      eaten m s b.0 a (omega arith) (omega (arith, ltb-true t.at t.job.length b.1)))
      (λ e. stood m s (rw e) h)
