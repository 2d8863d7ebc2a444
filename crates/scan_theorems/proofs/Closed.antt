-- The ranges are closed: a step of a tokenizer in range leaves it in range.
use Prim.Native.Nat.{ℕ, ◌≤◌}
use mathlib.Core.Path.{◌≡◌}
use mathlib.Core.Bool.{Bool, true, false, ◌&&◌}
use mathlib.Core.List.{List}
use native.Mathlib.Omega.{arith}
use lib.Dec.{leb, ltb, eqb}
use borrow.Author.Tests.{leb-true, ltb-true}
use borrow.Author.Rules.{rules}
use Rattle.base.proofs.Choice.{if_is, case, both}
use Rattle.base.specs.State.{rests}
use Rattle.base.specs.declared.Effect.{Effect}
use Rattle.base.specs.declared.Effect.TheVariants.{Keep, Deeper, Shallower, Open, PrefixBegins, PrefixGoesOn, PrefixEnds, PrefixInTab, Quote, Return, Save, Restore, Last, Fault, Refuse}
use Rattle.base.specs.declared.Move.{Move}
use Rattle.tokenizer.specs.Decision.{decision}
use Rattle.base.specs.Page.{page_limit}
use Rattle.tokenizer.specs.Moved.{one_more, next_place, place_after, first_joint, changed, moved}
use Rattle.tokenizer.specs.Ranges.{esm, in_range}
use Rattle.tokenizer.specs.declared.Regs.{Regs}
use Rattle.tokenizer.specs.declared.Tokenizer.{Tokenizer}
use Rattle.scan_theorems.proofs.Parts.{RegsIn, Parts, parts, whole, low, high}
use Rattle.scan_theorems.proofs.Tame.{Tame, tame, calm, stands_listed}
use Rattle.scan_theorems.proofs.DecisionTame.{low_tame, high_tame}

-- one more up to a limit stays within it, and so do the next place and the first line prefix
more_small : (n limit : ℕ) → n ≤ limit → one_more n limit ≤ limit
more_small n limit h = if_is ℕ (λ (k : ℕ). k ≤ limit) (ltb n limit) _ _ (λ e. omega (arith, ltb-true n limit e)) (λ e. h)

next_small : (at n : ℕ) (eat : Bool) → at ≤ n → next_place at eat n ≤ n
next_small at n eat h =
    if_is ℕ (λ (k : ℕ). k ≤ n) (eat && ltb at n) _ _ (λ e. omega (arith, ltb-true at n (both eat (ltb at n) e).1)) (λ e. h)

joint_small : (joint at n : ℕ) → joint ≤ n → at ≤ n → first_joint joint at ≤ n
joint_small joint at n h g = if_is ℕ (λ (k : ℕ). k ≤ n) (eqb joint 0) _ _ (λ e. g) (λ e. h)

-- a look-ahead goes back to a place of the page
place_small : (e : Effect) (next saved n : ℕ) → next ≤ n → saved ≤ n → place_after e next saved ≤ n
place_small Keep next saved n h g = h
place_small Deeper next saved n h g = h
place_small Shallower next saved n h g = h
place_small Open next saved n h g = h
place_small PrefixBegins next saved n h g = h
place_small PrefixGoesOn next saved n h g = h
place_small PrefixEnds next saved n h g = h
place_small (PrefixInTab passed) next saved n h g = h
place_small (Quote b) next saved n h g = h
place_small (Return name) next saved n h g = h
place_small Save next saved n h g = h
place_small Restore next saved n h g = g
place_small (Last k) next saved n h g = h
place_small (Fault k place) next saved n h g = h
place_small (Refuse site note) next saved n h g = h

-- an effect whose numbers are in range keeps the registers in range
changed_in : (n at next : ℕ) (e : Effect) (r : Regs) → at ≤ n → next ≤ n → calm e ≡ true → RegsIn n r → RegsIn n (changed e at next r)
changed_in n at next Keep r a b c h = h
changed_in n at next Deeper r a b c h = let d = more_small r.depth page_limit h.depth in search rules
changed_in n at next Shallower r a b c h = search rules
changed_in n at next Open r a b c h = search rules
changed_in n at next PrefixBegins r a b c h = let d = joint_small r.joint at n h.joint a in search rules
changed_in n at next PrefixGoesOn r a b c h = let d = more_small r.prefix 2 h.prefix in search rules
changed_in n at next PrefixEnds r a b c h = search rules
changed_in n at next (PrefixInTab passed) r a b c h = search rules
changed_in n at next (Quote q) r a b c h = let d = leb-true q 255 c in search rules
changed_in n at next (Return name) r a b c h = search rules
changed_in n at next Save r a b c h = search rules
changed_in n at next Restore r a b c h = h
changed_in n at next (Last k) r a b c h = let d = leb-true k 65535 c in search rules
changed_in n at next (Fault k place) r a b c h = let d = leb-true k 65535 c in search rules
changed_in n at next (Refuse site note) r a b c h =
    let d = both (leb site 19) (leb note 4) c in
    let s = leb-true site 19 d.0 in
    let m = leb-true note 4 d.1 in
    search rules

-- and so a tame decision keeps the tokenizer in range
tame_moved : (t : Tokenizer) (e : Bool) (m : Move) → eqb t.job.construct esm ≡ e → Parts t → Tame e m → in_range (moved t m) ≡ true
unfolding moved
tame_moved t e m c p (tame s k) =
    let n = t.job.length in
    let next = next_place t.at m.eat n in
    let g : next ≤ n = next_small t.at n m.eat p.at in
    whole (moved t m)
    (record {
      at = place_small m.effect next t.regs.saved n g p.regs.saved;
      job = p.job;
      state = stands_listed t.job.construct m.next e c s;
      regs = changed_in n t.at next m.effect t.regs p.at g k p.regs;
      heard = p.heard;
    })

pub moved_in_range : (page : List ℕ) (t : Tokenizer) (b : ℕ) → in_range t ≡ true → rests t.state ≡ false → in_range (moved t (decision page t b)) ≡ true
moved_in_range page t b h r =
    let p = parts t h in
    case _ (eqb t.job.construct esm)
    (λ e. tame_moved t true (decision page t b) e p (high_tame page t b p.heard (high t.job.construct t.state e p.state r)))
    (λ e. tame_moved t false (decision page t b) e p (low_tame page t b p.regs.back p.heard (low t.job.construct t.state e p.state r)))
