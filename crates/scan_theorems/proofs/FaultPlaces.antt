-- Where a verdict finds fault: never further than one past the place that asked for it; and where a line prefix ends inside a tab: at a tab,
-- which is not eaten. Of every decision, by one walk over the tables of states.
use Prim.Native.Nat.{ℕ, zero, suc, ◌+◌, ◌-◌, ◌≤◌}
use native.Mathlib.Omega.{arith}
use native.Mathlib.Decide.{dec_le}
use mathlib.Core.Path.{◌≡◌, refl}
use mathlib.Core.Bool.{Bool, true, false, not, ◌&&◌}
use mathlib.Core.Logic.{by_cases}
use mathlib.Core.List.{List, ◌∷◌, ◌++◌}
use lib.Dec.{leb, ltb, eqb}
use lib.ListN.{get_or}
use borrow.Author.Tests.{le-leb, ltb-true}
use Rattle.base.proofs.Tables.{◌&◌, Each}
use Rattle.base.specs.If.{when◌then◌else◌}
use Rattle.base.proofs.Choice.{if_is, case, both, and_yes}
use Rattle.base.specs.Byte.{tab}
use Rattle.base.specs.Page.{byte_at}
use Rattle.base.specs.State.{rests}
use Rattle.base.specs.declared.Effect.{Effect}
use Rattle.base.specs.declared.Effect.TheVariants.{Keep, Deeper, Shallower, Open, PrefixBegins, PrefixGoesOn, PrefixEnds, PrefixInTab, Quote, Return, Save, Restore, Last, Fault, Refuse}
use Rattle.base.specs.declared.Move.{Move}
use Rattle.base.specs.declared.Verdict.{Verdict}
use Rattle.base.specs.declared.Verdict.TheVariants.{Fine, Unfinished, Wrong}
use Rattle.body_places.specs.Body.{Cell, cells_at, places_of, prefix_after, in_prefix, splits, spaces, begins_run, drift_at, cells_from, all_from, expression_places, esm_places}
use Rattle.mdx_expression.specs.Expression as expression
use Rattle.mdx_esm.specs.Esm as esm
use Rattle.tokenizer.specs.Decision.{expression_fault, esm_fault, expression_states, tag_states, attribute_states, esm_states, decision}
use Rattle.tokenizer.specs.Ranges.{in_range}
use Rattle.tokenizer.specs.Ranges as ranges
use Rattle.tokenizer.specs.declared.Tokenizer.{Tokenizer}
use Rattle.scan_theorems.proofs.EveryState.{of_every_tag_state, of_every_esm_state}
use Rattle.scan_theorems.proofs.Parts.{parts, low, high}

-- ---- the places of a body

module _ (page : List ℕ) (to : ℕ) where
  -- one of the list, or what stands for none
  first_or : (p : ℕ) (l : List ℕ) → p ≤ to + 1 → ((i : ℕ) → get_or l i to ≤ to + 1) → (i : ℕ) → get_or (p ∷ l) i to ≤ to + 1
  first_or p l h f zero = h
  first_or p l h f (suc i) = f i

  -- the spaces of a tab stand no further than two past it
  spaces_or : (n at : ℕ) (l : List Cell) → at + n ≤ to + 2 → ((i : ℕ) → get_or (places_of l) i to ≤ to + 1) → (i : ℕ) → get_or (places_of (cells_at at (spaces n) ++ l)) i to ≤ to + 1
  spaces_or zero at l h f i = f i
  spaces_or (suc n) at l h f zero = omega arith
  spaces_or (suc n) at l h f (suc i) = spaces_or n (at + 1) l (omega arith) f i

  -- a place drifts by two at the most
  places_within : (n left drift at r : ℕ) → at + n ≤ to → drift ≤ 2 → get_or (places_of (cells_from page left drift at n)) r to ≤ to + 1
  unfolding cells_from
  places_within zero left drift at r h d = omega arith
  places_within (suc n) left drift at r h d =
      let b = byte_at page at in
      if_is (List Cell) (λ (l : List Cell). get_or (places_of l) r to ≤ to + 1) (in_prefix b left) _ _ (λ e. places_within n (left - 1) drift (at + 1) r (omega arith) d)
      (λ e.
      if_is (List Cell) (λ (l : List Cell). get_or (places_of l) r to ≤ to + 1) (splits b left) _ _
      (λ f.
      let some = ltb-true 0 left (both (ltb 0 left) _ f).0 in
      spaces_or (4 - left) at (cells_from page 0 (4 - left - 1) (at + 1) n) (omega arith) (λ i. places_within n 0 (4 - left - 1) (at + 1) i (omega arith) (omega arith)) r)
      (λ f.
      let k : drift_at b drift ≤ 2 = if_is ℕ (λ (k : ℕ). k ≤ 2) (begins_run b) 0 drift (λ g. omega arith) (λ g. d) in
      first_or (at + drift_at b drift) (places_of (cells_from page (prefix_after b) (drift_at b drift) (at + 1) n)) (omega arith) (λ i. places_within n (prefix_after b) (drift_at b drift) (at + 1) i (omega arith) k) r))

  all_within : (n at r : ℕ) → at + n ≤ to → get_or (all_from at n) r to ≤ to
  unfolding all_from
  all_within zero at r h = omega arith
  all_within (suc n) at zero h = omega arith
  all_within (suc n) at (suc r) h = all_within n (at + 1) r (omega arith)

  pub expression_within : (from r : ℕ) → get_or (expression_places page from to) r to ≤ to + 1
  unfolding cells_from
  expression_within from r =
      by_cases (dec_le from to) (λ (h : from ≤ to). places_within (to - from) 0 0 from r (omega arith) (omega arith))
      (λ h. let z : to - from ≡ 0 = omega (arith, h) in rw z (omega arith))

  pub esm_within : (from r : ℕ) → get_or (esm_places from to) r to ≤ to
  unfolding all_from
  esm_within from r =
      by_cases (dec_le from to) (λ (h : from ≤ to). all_within (to - from) from r (omega arith))
      (λ h. let z : to - from ≡ 0 = omega (arith, h) in rw z (omega arith))

  expression_fault_within : (v : Verdict) (from : ℕ) → expression_fault page v from to ≤ to + 1
  unfolding expression_fault
  expression_fault_within Fine from = omega arith
  expression_fault_within (Unfinished n) from = omega arith
  expression_fault_within (Wrong n r) from = expression_within from r

  esm_fault_within : (v : Verdict) (from : ℕ) → esm_fault v from to ≤ to
  unfolding esm_fault
  esm_fault_within Fine from = omega arith
  esm_fault_within (Unfinished n) from = omega arith
  esm_fault_within (Wrong n r) from = esm_within from r

-- ---- decisions

abbrev pub fault_in : ℕ → ℕ → Bool → Effect → Bool
fault_in at b eat Keep = true
fault_in at b eat Deeper = true
fault_in at b eat Shallower = true
fault_in at b eat Open = true
fault_in at b eat PrefixBegins = true
fault_in at b eat PrefixGoesOn = true
fault_in at b eat PrefixEnds = true
fault_in at b eat (PrefixInTab passed) = eqb b tab && not eat
fault_in at b eat (Quote q) = true
fault_in at b eat (Return name) = true
fault_in at b eat Save = true
fault_in at b eat Restore = true
fault_in at b eat (Last n) = true
fault_in at b eat (Fault n place) = leb place (at + 1)
fault_in at b eat (Refuse site note) = true

pub data Faults (at b : ℕ) (m : Move) : Type 0 where
  faults : fault_in at b m.eat m.effect ≡ true → Faults at b m

either : (at b : ℕ) (t : Bool) (x y : Move) → Faults at b x → Faults at b y → Faults at b (when t then x else y)
either at b t x y p q = if_is Move (Faults at b) t x y (λ h. p) (λ h. q)

ruleset faultless = (either, faults, refl)

verdict_faults : (at b : ℕ) (v : Verdict) (place token back : ℕ) → place ≤ at + 1 → Faults at b (expression.verdict v place token back)
verdict_faults at b Fine place token back h = faults refl
verdict_faults at b (Unfinished n) place token back h = faults refl
verdict_faults at b (Wrong n offset) place token back h = faults (le-leb place (at + 1) h)

esm_verdict_faults : (at : ℕ) (v : Verdict) (b : ℕ) (after : Bool) (place : ℕ) → place ≤ at + 1 → Faults at b (esm.verdict v b after place)
esm_verdict_faults at Fine b after place h = search faultless depth 12
esm_verdict_faults at (Unfinished n) b after place h = search faultless depth 12
esm_verdict_faults at (Wrong n offset) b after place h = faults (le-leb place (at + 1) h)

prefix_faults : (at b size : ℕ) → Faults at b (expression.prefix b size)
prefix_faults at b size =
    if_is Move (Faults at b) (expression.prefix_goes_on b size) _ _ (λ h. faults refl)
    (λ h.
    if_is Move (Faults at b) (expression.prefix_in_tab b size) _ _
    (λ g. faults (and_yes _ _ (both (ltb size expression.prefix_size) _ g).1 refl))
    (λ g. faults refl))

module _ (page : List ℕ) (t : Tokenizer) (b : ℕ) where
  abbrev P : Move → Type 0
  P m = Faults t.at b m

  in_esm : Each P t.state (esm_states page t b)
  in_esm =
      ((λ k. search faultless depth 12)
      & (λ k. search faultless depth 12)
      & (λ k. search faultless depth 12)
      & (λ k. search faultless depth 12)
      & (λ k. search faultless depth 12)
      & (λ k. search faultless depth 12)
      & (λ k. search faultless depth 12)
      & (λ k. search faultless depth 12)
      & (λ k. esm_verdict_faults t.at t.heard b _ _ (omega (arith, esm_fault_within page t.at t.heard t.job.start)))
      & tt)

  in_attribute : Each P t.state (attribute_states t b)
  in_attribute =
      ((λ k. search faultless depth 12)
      & (λ k. search faultless depth 12)
      & (λ k. search faultless depth 12)
      & (λ k. search faultless depth 12)
      & (λ k. search faultless depth 12)
      & (λ k. search faultless depth 12)
      & (λ k. search faultless depth 12)
      & (λ k. search faultless depth 12)
      & (λ k. search faultless depth 12)
      & (λ k. search faultless depth 12)
      & (λ k. search faultless depth 12)
      & tt)

  in_tag : Each P t.state (tag_states t b)
  in_tag =
      ((λ k. search faultless depth 12)
      & (λ k. search faultless depth 12)
      & (λ k. search faultless depth 12)
      & (λ k. search faultless depth 12)
      & (λ k. search faultless depth 12)
      & (λ k. search faultless depth 12)
      & (λ k. search faultless depth 12)
      & (λ k. search faultless depth 12)
      & (λ k. search faultless depth 12)
      & (λ k. search faultless depth 12)
      & (λ k. search faultless depth 12)
      & (λ k. search faultless depth 12)
      & (λ k. search faultless depth 12)
      & (λ k. search faultless depth 12)
      & (λ k. search faultless depth 12)
      & (λ k. search faultless depth 12)
      & (λ k. search faultless depth 12)
      & (λ k. search faultless depth 12)
      & (λ k. search faultless depth 12)
      & tt)

  in_expression : Each P t.state (expression_states page t b)
  in_expression =
      ((λ k. search faultless depth 12)
      & (λ k. search faultless depth 12)
      & (λ k. search faultless depth 12)
      & (λ k. search faultless depth 12)
      & (λ k. prefix_faults t.at b t.regs.prefix)
      & (λ k. verdict_faults t.at b t.heard _ _ _ (expression_fault_within page t.at t.heard t.regs.body))
      & tt)

  pub fault_within : in_range t ≡ true → rests t.state ≡ false → Faults t.at b (decision page t b)
  fault_within h r =
      let p = parts t h in
      case _ (eqb t.job.construct ranges.esm)
      (λ e. of_every_esm_state P page t b (high t.job.construct t.state e p.state r) in_esm)
      (λ e. of_every_tag_state P page t b (low t.job.construct t.state e p.state r) (faults refl) in_expression in_tag in_attribute)
