-- A refusal says where it stands: no scan from its start answers 6 or 7 with where-number 0. That is the number of what the Rust calls
-- unreachable, a tag's end at another byte than `>`; and no run comes there, since whatever leads to that state has seen the `>`.
use Prim.Native.Nat.{ℕ, ◌≤◌}
use native.Mathlib.Omega.{arith}
use mathlib.Core.Path.{◌≡◌, refl, sym, ap, ◌∙◌}
use mathlib.Core.Bool.{Bool, true, false, not, ◌||◌}
use mathlib.Core.List.{List}
use lib.Dec.{leb, eqb}
use borrow.Author.Tests.{ne_eqb, eq-eqb, eqb-true, leb-true}
use Rattle.base.proofs.Tables.{◌&◌, Each}
use Rattle.base.specs.Byte.{greater_than}
use Rattle.base.specs.If.{when◌then◌else◌}
use Rattle.base.proofs.Choice.{if_is, or_cases, or_no, or_yes}
use Rattle.base.proofs.Ranges.{within_is}
use Rattle.base.specs.Page.{byte_at}
use Rattle.base.specs.State as state
use Rattle.base.specs.Decide.{retry}
use Rattle.base.specs.declared.Marks.TheVariants.{Nothing}
use Rattle.base.specs.declared.Effect.{Effect}
use Rattle.base.specs.declared.Effect.TheVariants.{Keep, Deeper, Shallower, Open, PrefixBegins, PrefixGoesOn, PrefixEnds, PrefixInTab, Quote, Return, Save, Restore, Last, Fault, Refuse}
use Rattle.base.specs.declared.Move.{Move}
use Rattle.base.specs.declared.Verdict.{Verdict}
use Rattle.base.specs.declared.Verdict.TheVariants.{Fine, Unfinished, Wrong}
use Rattle.mdx_expression.specs.Expression as expression
use Rattle.mdx_jsx.specs.Jsx as jsx
use Rattle.mdx_esm.specs.Esm as esm
use Rattle.tokenizer.specs.Decision.{tag_token, expression_states, tag_states, attribute_states, esm_states, decision}
use Rattle.tokenizer.specs.Moved.{next_place, changed, moved}
use Rattle.tokenizer.specs.Ranges.{is_return}
use Rattle.tokenizer.specs.declared.Regs.{Regs}
use Rattle.tokenizer.specs.declared.Tokenizer.{Tokenizer}
use Rattle.scan_theorems.proofs.Tests.{clash}
use Rattle.scan_theorems.proofs.EveryState.{of_tags, of_esm, of_every_tag_state, of_every_esm_state}
use Rattle.scan_theorems.proofs.Sinks.{stays}
use Rattle.scan_theorems.proofs.TagFalls.{stay}

-- an end that carries a where-number
abbrev pub sited_end : ℕ → Bool
sited_end name = eqb name state.eof || eqb name state.unexpected

abbrev site_of : Effect → ℕ
site_of Keep = 0
site_of Deeper = 0
site_of Shallower = 0
site_of Open = 0
site_of PrefixBegins = 0
site_of PrefixGoesOn = 0
site_of PrefixEnds = 0
site_of (PrefixInTab passed) = 0
site_of (Quote b) = 0
site_of (Return name) = 0
site_of Save = 0
site_of Restore = 0
site_of (Last n) = 0
site_of (Fault n place) = 0
site_of (Refuse site note) = site

abbrev placed : Move → Bool
placed m = not (sited_end m.next) || leb 1 (site_of m.effect)

-- a decision that leads to a tag's end leaves the place at a `>`; one that ends with a where-number names it
data Sited (b : ℕ) (m : Move) : Type 0 where
  plain : eqb m.next state.mdx_jsx_tag_end ≡ false → placed m ≡ true → Sited b m
  at_end : eqb b greater_than ≡ true → m.eat ≡ false → stays m.effect ≡ true → placed m ≡ true → Sited b m

either : (b : ℕ) (t : Bool) (x y : Move) → (t ≡ true → Sited b x) → (t ≡ false → Sited b y) → Sited b (when t then x else y)
either b t x y p q = if_is Move (Sited b) t x y p q

ruleset sites = (either, plain, at_end, refl)

other : (back k : ℕ) → is_return back ≡ true → (back ≡ 0 → k ≡ 0 → ⊥) → (40 ≤ k → k ≤ 55 → ⊥) → eqb back k ≡ false
unfolding is_return
other back k h z l =
    or_cases _ (eqb back 0) _ h (λ e. ne_eqb back k (λ q. z (eqb-true back 0 e) (sym q ∙ eqb-true back 0 e)))
    (λ e. let w = within_is 40 55 back e in ne_eqb back k (λ q. l (omega (arith, q)) (omega (arith, q))))

returned : (b : ℕ) (m : Move) → is_return m.next ≡ true → Sited b m
returned b m h =
    plain (other m.next 57 h (λ p q. omega arith) (λ p q. omega arith))
    (or_yes _ _ (ap not (or_no _ _ (other m.next 6 h (λ p q. omega arith) (λ p q. omega arith)) (other m.next 7 h (λ p q. omega arith) (λ p q. omega arith)))))

verdict_sited : (b : ℕ) (v : Verdict) (place token back : ℕ) → is_return back ≡ true → Sited b (expression.verdict v place token back)
verdict_sited b Fine place token back h = returned b _ h
verdict_sited b (Unfinished n) place token back h = plain refl refl
verdict_sited b (Wrong n offset) place token back h = plain refl refl

esm_verdict_sited : (v : Verdict) (b : ℕ) (after : Bool) (place : ℕ) → Sited b (esm.verdict v b after place)
esm_verdict_sited Fine b after place = search sites depth 12
esm_verdict_sited (Unfinished n) b after place = search sites depth 12
esm_verdict_sited (Wrong n offset) b after place = plain refl refl

-- the state comes to the `>` that was seen
tag_end_sited : (b token : ℕ) → b ≡ greater_than → Sited b (jsx.tag_end b token)
tag_end_sited b token e = either b (eqb b greater_than) _ _ (λ t. plain refl refl) (λ t. clash (eqb b greater_than) (eq-eqb b greater_than e) t)

-- ---- every state

module _ (page : List ℕ) (t : Tokenizer) (b : ℕ) where
  expression_sited : is_return t.regs.back ≡ true → Each (Sited b) t.state (expression_states page t b)
  expression_sited h =
      ((λ k. search sites depth 12)
      & (λ k. search (sites, returned) depth 12)
      & (λ k. search sites depth 12)
      & (λ k. search sites depth 12)
      & (λ k. search sites depth 12)
      & (λ k. verdict_sited b t.heard _ _ t.regs.back h)
      & tt)

  tag_sited : is_return t.regs.back ≡ true → (t.state ≡ state.mdx_jsx_tag_end → b ≡ greater_than) → Each (Sited b) t.state (tag_states t b)
  tag_sited h g =
      ((λ k. search sites depth 12)
      & (λ k. search sites depth 12)
      & (λ k. search sites depth 12)
      & (λ k. search sites depth 12)
      & (λ k. tag_end_sited b (tag_token t.job.kind) (g k))
      & (λ k. search sites depth 12)
      & (λ k. search sites depth 12)
      & (λ k. search sites depth 12)
      & (λ k. search sites depth 12)
      & (λ k. search sites depth 12)
      & (λ k. search sites depth 12)
      & (λ k. search sites depth 12)
      & (λ k. search sites depth 12)
      & (λ k. search sites depth 12)
      & (λ k. search (sites, returned) depth 12)
      & (λ k. search (sites, returned) depth 12)
      & (λ k. search sites depth 12)
      & (λ k. search (sites, returned) depth 12)
      & (λ k. search sites depth 12)
      & tt)

  attribute_sited : Each (Sited b) t.state (attribute_states t b)
  attribute_sited =
      ((λ k. search sites depth 12)
      & (λ k. search sites depth 12)
      & (λ k. search sites depth 12)
      & (λ k. search sites depth 12)
      & (λ k. search sites depth 12)
      & (λ k. search sites depth 12)
      & (λ k. search sites depth 12)
      & (λ k. search sites depth 12)
      & (λ k. search sites depth 12)
      & (λ k. search sites depth 12)
      & (λ k. search sites depth 12)
      & tt)

  esm_sited : Each (Sited b) t.state (esm_states page t b)
  esm_sited =
      ((λ k. search sites depth 12)
      & (λ k. search sites depth 12)
      & (λ k. search sites depth 12)
      & (λ k. search sites depth 12)
      & (λ k. search sites depth 12)
      & (λ k. search sites depth 12)
      & (λ k. search sites depth 12)
      & (λ k. search sites depth 12)
      & (λ k. esm_verdict_sited t.heard b _ _)
      & tt)

-- ---- what a scan keeps

-- where it stands at a tag's end, there is a `>`; where it has ended with a where-number, that is not 0
pub record Placed (page : List ℕ) (t : Tokenizer) : Type 0 where
  pub tag_end : t.state ≡ state.mdx_jsx_tag_end → byte_at page t.at ≡ greater_than
  pub sited : sited_end t.state ≡ true → 1 ≤ t.regs.site

site_named : (e : Effect) (at next : ℕ) (r : Regs) → leb 1 (site_of e) ≡ true → 1 ≤ (changed e at next r).site
site_named Keep at next r h = clash false h refl
site_named Deeper at next r h = clash false h refl
site_named Shallower at next r h = clash false h refl
site_named Open at next r h = clash false h refl
site_named PrefixBegins at next r h = clash false h refl
site_named PrefixGoesOn at next r h = clash false h refl
site_named PrefixEnds at next r h = clash false h refl
site_named (PrefixInTab passed) at next r h = clash false h refl
site_named (Quote b) at next r h = clash false h refl
site_named (Return name) at next r h = clash false h refl
site_named Save at next r h = clash false h refl
site_named Restore at next r h = clash false h refl
site_named (Last n) at next r h = clash false h refl
site_named (Fault n place) at next r h = clash false h refl
site_named (Refuse site note) at next r h = leb-true 1 site h

module _ (page : List ℕ) (t : Tokenizer) where
  named : (m : Move) → placed m ≡ true → sited_end m.next ≡ true → 1 ≤ (moved t m).regs.site
  unfolding moved
  named m p e = site_named m.effect t.at _ t.regs (rw e at p)

  placed_moved : (m : Move) → Sited (byte_at page t.at) m → Placed page (moved t m)
  unfolding moved when◌then◌else◌
  placed_moved m (plain n p) = record { tag_end = λ e. clash _ (eq-eqb m.next state.mdx_jsx_tag_end e) n; sited = named m p }
  placed_moved m (at_end g e s p) =
      record {
        tag_end = λ k. ap (byte_at page) (stay m.effect (next_place t.at m.eat t.job.length) t.regs.saved s ∙ rw e) ∙ eqb-true (byte_at page t.at) greater_than g;
        sited = named m p;
      }

  pub placed_tag : is_return t.regs.back ≡ true → of_tags t.state ≡ true → Placed page t → Placed page (moved t (decision page t (byte_at page t.at)))
  placed_tag h l p =
      let b = byte_at page t.at in
      placed_moved (decision page t b) (of_every_tag_state (Sited b) page t b l (plain refl refl) (expression_sited page t b h) (tag_sited page t b h p.tag_end) (attribute_sited page t b))

  pub placed_esm : of_esm t.state ≡ true → Placed page (moved t (decision page t (byte_at page t.at)))
  placed_esm l =
      let b = byte_at page t.at in
      placed_moved (decision page t b) (of_every_esm_state (Sited b) page t b l (esm_sited page t b))

  pub placed_full : Placed page (moved t (retry state.full Nothing))
  placed_full = placed_moved (retry state.full Nothing) (plain refl refl)
