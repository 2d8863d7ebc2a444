-- A decision of an ESM block that is paid for and keeps what the look-ahead needs; and the three ways of it: it ends the scan, eats a
-- byte, or goes on at the same byte, at one that it saves, or at one that it has saved.
use Prim.Native.Nat.{ℕ, ◌+◌, ◌-◌, ◌≤◌, ◌<◌}
use mathlib.Core.Path.{◌≡◌, refl}
use mathlib.Core.Bool.{Bool, true, false}
use mathlib.Core.List.{List}
use native.Mathlib.Omega.{arith}
use lib.ListN.{length}
use lib.Dec.{leb, eqb}
use borrow.Author.Tests.{lt-ltb, leb-true}
use Rattle.base.specs.If.{when◌then◌else◌}
use Rattle.base.proofs.Choice.{if_is}
use Rattle.base.specs.Table.{find}
use Rattle.base.specs.State as state
use Rattle.base.specs.Decide.{eat, retry_with}
use Rattle.base.specs.declared.Effect.{Effect}
use Rattle.base.specs.declared.Marks.{Marks}
use Rattle.base.specs.declared.Move.{Move}
use Rattle.tokenizer.specs.Moved.{next_place, place_after, changed}
use Rattle.tokenizer.specs.Ranges.{esm}
use Rattle.tokenizer.specs.declared.Regs.{Regs}
use Rattle.scan_theorems.proofs.Price.{Prices, price}
use Rattle.scan_theorems.proofs.Due.{ahead, again, passing, judging, looking, esm_due, due_of, due_esm}
use Rattle.scan_theorems.proofs.Ahead.{Ahead, elsewhere, low_elsewhere}

-- the place and the registers after the decision m at the place `at` of n bytes
abbrev pub place_of : ℕ → ℕ → Regs → Move → ℕ
place_of n at r m = place_after m.effect (next_place at m.eat n) r.saved

abbrev pub regs_of : ℕ → ℕ → Regs → Move → Regs
regs_of n at r m = changed m.effect at (next_place at m.eat n) r

-- the decision m, where k is due
pub record EsmFalls (p : Prices) (page : List ℕ) (construct n at : ℕ) (r : Regs) (k : ℕ) (m : Move) : Type 0 where
  pub less : due_of p page construct m.next (place_of n at r m) (regs_of n at r m) + price p m.marks ≤ k
  pub kept : Ahead page m.next (place_of n at r m) (regs_of n at r m).saved

-- what is due in each state, by its name
module _ (p : Prices) (page : List ℕ) (at saved : ℕ) where
  pub word_due : esm_due p page state.mdx_esm_word at saved ≡ ahead p page at + p.none
  unfolding esm_due find when◌then◌else◌
  word_due = refl

  pub inside_due : esm_due p page state.mdx_esm_inside at saved ≡ ahead p page at + (p.one + (p.none + looking p page)) - again p page at
  unfolding esm_due find when◌then◌else◌
  inside_due = refl

  pub line_due : esm_due p page state.mdx_esm_line_start at saved ≡ ahead p page at + (p.none + looking p page) - again p page at
  unfolding esm_due find when◌then◌else◌
  line_due = refl

  pub before_due : esm_due p page state.mdx_esm_blank_line_before at saved ≡ ahead p page at + looking p page
  unfolding esm_due find when◌then◌else◌
  before_due = refl

  pub blank_due : esm_due p page state.mdx_esm_blank_line at saved ≡ ahead p page saved + looking p page - passing p page (at - saved)
  unfolding esm_due find when◌then◌else◌
  blank_due = refl

  pub end_due : esm_due p page state.mdx_esm_at_end at saved ≡ ahead p page at + (p.none + judging p page) - again p page (at + 1)
  unfolding esm_due find when◌then◌else◌
  end_due = refl

  pub asking_due : esm_due p page state.asking at saved ≡ ahead p page at + judging p page - again p page (at + 1)
  unfolding esm_due find when◌then◌else◌
  asking_due = refl

  pub goes_on_due : esm_due p page state.mdx_esm_continuation_start at saved ≡ ahead p page at + p.two - again p page (at + 1)
  unfolding esm_due find when◌then◌else◌
  goes_on_due = refl

-- what falls by either choice falls
pub pick : {p : Prices} {page : List ℕ} {construct n at : ℕ} {r : Regs} {k : ℕ} {t : Bool} {x y : Move} → (t ≡ true → EsmFalls p page construct n at r k x) → (t ≡ false → EsmFalls p page construct n at r k y) → EsmFalls p page construct n at r k (when t then x else y)
pick {p} {page} {construct} {n} {at} {r} {k} {t} {x} {y} = if_is Move (EsmFalls p page construct n at r k) t x y

-- the scan ends
pub ends : {p : Prices} {page : List ℕ} {construct n at : ℕ} {r : Regs} {k : ℕ} {m : Move} → leb m.next state.bad_call ≡ true → price p m.marks ≤ k → EsmFalls p page construct n at r k m
unfolding due_of when◌then◌else◌
ends {m} h g =
    record {
      less = rw h (omega (arith, g));
      kept = elsewhere (low_elsewhere m.next (omega (arith, leb-true m.next state.bad_call h)));
    }

-- a byte is eaten
pub eats : {p : Prices} {page : List ℕ} {construct n at : ℕ} {r : Regs} {k next : ℕ} {marks : Marks} → eqb construct esm ≡ true → length page ≡ n → leb next state.bad_call ≡ false → at < length page → esm_due p page next (at + 1) r.saved + price p marks ≤ k → Ahead page next (at + 1) r.saved → EsmFalls p page construct n at r k (eat next marks)
unfolding when◌then◌else◌
eats {p} {page} {construct} {n} {at} {r} {k} {next} c size h l g a =
    let q : next_place at true n ≡ at + 1 = rw (lt-ltb at n (omega arith)) in
    record {
      less = rw (q, due_esm p page construct next (at + 1) r c h) g;
      kept = rw q a;
    }

-- no byte is eaten, and the next state stands at the place q with the saved place s
pub goes : {p : Prices} {page : List ℕ} {construct n at : ℕ} {r : Regs} {k next : ℕ} {marks : Marks} {effect : Effect} (q s : ℕ) → eqb construct esm ≡ true → place_after effect at r.saved ≡ q → (changed effect at at r).saved ≡ s → leb next state.bad_call ≡ false → esm_due p page next q s + price p marks ≤ k → Ahead page next q s → EsmFalls p page construct n at r k (retry_with next marks effect)
unfolding when◌then◌else◌
goes {p} {page} {construct} {at} {r} {next} {effect} q s c e f h g a =
    record {
      less = rw (e, due_esm p page construct next q (changed effect at at r) c h, f) g;
      kept = rw (e, f) a;
    }
