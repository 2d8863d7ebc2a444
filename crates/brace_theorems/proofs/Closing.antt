-- A scan without a verdict source closes its expressions where the rule on braces says: of an expression that stands alone, by its answer, and
-- of those in a tag, by their events.
use Prim.Native.Nat.{ℕ, ◌+◌, ◌%◌}
use native.Mathlib.Omega.{arith}
use mathlib.Core.Path.{◌≡◌, refl, sym, ap, ◌∙◌, subst}
use mathlib.Core.Logic.{inl, inr}
use mathlib.Core.Bool.{true, false}
use mathlib.Core.List.{List, [], ◌∷◌, ◌++◌}
use mathlib.Core.Option.{Option, none, some}
use lib.Dec.{eqb}
use lib.ListN.{get_or}
use borrow.Author.Tests.{eqb-true, eq-eqb}
use Rattle.base.specs.If.{when◌then◌else◌}
use Rattle.base.proofs.Choice.{case, both, and_yes, or_cases, or_yes, or_yes'}
use Rattle.base.specs.Range.{within}
use Rattle.base.specs.State as state
use Rattle.base.specs.Table.{find}
use Rattle.mdx_expression.specs.Expression.{in_expression}
use Rattle.page.specs.Page.{page_of}
use Rattle.events.specs.declared.Event.{Event}
use Rattle.tokenizer.specs.Ranges.{expression, tag, esm}
use Rattle.scan.specs.declared.Scan.{Scan}
use Rattle.scan.specs.Answer.{refusal, answer_of}
use Rattle.scan.specs.Scan.{run_scan, run_events}
use Rattle.scan.specs.Call.{fresh_in, started, begin_of}
use Rattle.scan.proofs.Begun.{Begins, begins}
use Rattle.brace_theorems.specs.Braces.{NeverCloses, closing_of}
use Rattle.brace_theorems.specs.Closing.{DoneAt, EndsInExpression, EndsAt, ByTheRule, opens, Opened, ClosesByTheRule, AllByTheRule, Expression, ExpressionsClose, Tag, TagsClose}
use Rattle.scan_theorems.specs.Statement.{where_of}
use Rattle.scan_theorems.proofs.Tests.{clash}
use Rattle.scan_theorems.proofs.Counting.{first_is, answers_its_state}
use Rattle.brace_theorems.proofs.Braces.{closing_is_the_first, nothing_closes}
use Rattle.page.proofs.Bytes.{Bytes, formed_of_bytes}
use Rattle.brace_theorems.proofs.Turn.{inside, ends_inside}
use Rattle.brace_theorems.proofs.Runs.{past, is_none, Right, AllRight, unclosed, any_unclosed}
use Rattle.brace_theorems.proofs.Scans.{Going, Settled, outcome, Ending, whole, torn, expression_ends}
use Rattle.brace_theorems.proofs.New.{going_begun}
use Rattle.brace_theorems.proofs.Ways.{OfEveryRest, every_way}

-- ---- what a scan answers

done_said : (s : Scan) → s.tokenizer.state ≡ state.done → DoneAt s.tokenizer.at (answer_of s)
unfolding answer_of find when◌then◌else◌
done_said s e = rw e (refl, refl)

eof_said : (s : Scan) → s.tokenizer.state ≡ state.eof → ((answer_of s).number ≡ state.eof) × (where_of (answer_of s) ≡ s.tokenizer.regs.site) × (get_or (answer_of s).values 0 0 ≡ s.tokenizer.at)
unfolding answer_of refusal find when◌then◌else◌
eof_said s e = rw e (refl, refl, refl)

ends_said : (s : Scan) → ends_inside s.tokenizer ≡ true → EndsAt s.tokenizer.at (answer_of s)
ends_said s h =
    let p = both (eqb s.tokenizer.state state.eof) _ h in
    let a = eof_said s (eqb-true s.tokenizer.state state.eof p.0) in
    ((a.0, a.1 ∙ eqb-true s.tokenizer.regs.site in_expression p.1), a.2)

-- and the way back
said_ends : (s : Scan) → EndsInExpression (answer_of s) → ends_inside s.tokenizer ≡ true
said_ends s h =
    case _ (eqb s.tokenizer.state state.eof)
    (λ e.
    let a = eof_said s (eqb-true s.tokenizer.state state.eof e) in
    and_yes (eqb s.tokenizer.state state.eof) _ e (eq-eqb s.tokenizer.regs.site in_expression (sym a.1 ∙ h.1)))
    (λ e. clash (eqb (answer_of s).number state.eof) (eq-eqb (answer_of s).number state.eof h.0) (answers_its_state state.eof refl refl s e))

-- ---- an expression that stands alone

module _ (page : List ℕ) (brace : ℕ) (s : Scan) where
  -- it does not close and stay open
  not_both : {A : Type 0} (c : ℕ) → closing_of page brace ≡ some c → closing_of page brace ≡ none → A
  not_both c p q = let z : ◌≡◌ {A = ℕ} 0 1 = cc in absurd (omega arith)

  by_the_rule : Ending page brace s.tokenizer → ByTheRule page brace (answer_of s)
  by_the_rule (whole c q done at) =
      let a = done_said s done in
      record {
        closed = λ d. (
          λ x. let e : c ≡ d = omega (arith, a.1, x.1, at) in (closing_is_the_first page brace d).0 (rw (sym e) q),
          λ x. let e : some c ≡ some d = sym q ∙ (closing_is_the_first page brace d).1 x in
              let f : c ≡ d = cc in
              (a.0, a.1 ∙ at ∙ ap (λ (n : ℕ). n + 1) f),
        );
        unclosed = (λ x. absurd (omega (arith, x.0.0, a.0)), λ x. not_both c q ((nothing_closes page brace).1 x));
        nothing_else = inl (c, (a.0, a.1 ∙ at));
      }
  by_the_rule (torn q h at) =
      let a = ends_said s h in
      record {
        closed = λ d. (λ x. absurd (omega (arith, x.0, a.0.0)), λ x. not_both d ((closing_is_the_first page brace d).1 x) q);
        unclosed = (λ x. (nothing_closes page brace).0 q, λ x. (a.0, a.1 ∙ at));
        nothing_else = inr (a.0, a.1 ∙ at);
      }

-- ---- the expressions that a list of events opens

module _ (page : List ℕ) where
  -- what holds of every opened one holds of each, wherever the list is cut
  right_of : (events : List Event) → AllRight page events → (e : Event) (behind : List Event) → Opened events e behind → Right page e behind
  right_of events all e behind o = cut o.before (subst (AllRight page) o.list all)
    where
      cut : (before : List Event) → AllRight page (before ++ (e ∷ behind)) → Right page e behind
      cut [] r = r.0 o.opens
      cut (x ∷ before) r = cut before r.1

  past_some : (o : Option ℕ) (c : ℕ) → past o ≡ some (c + 1) → o ≡ some c
  past_some none c e = let z : ◌≡◌ {A = ℕ} 0 1 = cc in absurd (omega arith)
  past_some (some d) c e = let f : d + 1 ≡ c + 1 = cc in let g : d ≡ c = omega arith in ap some g

  past_none : (o : Option ℕ) → past o ≡ none → o ≡ none
  past_none none e = refl
  past_none (some d) e = let z : ◌≡◌ {A = ℕ} 0 1 = cc in absurd (omega arith)

  closes_by_the_rule : (e : Event) (behind : List Event) → Right page e behind → ClosesByTheRule page e behind
  closes_by_the_rule e behind r =
      record {
        brace = r.brace;
        marker = r.marker;
        closed = λ c. (
          λ x. (closing_is_the_first page e.offset c).0 (past_some _ c (sym r.exit ∙ x)),
          λ x. r.exit ∙ ap past ((closing_is_the_first page e.offset c).1 x),
        );
        unclosed = (λ x. (nothing_closes page e.offset).0 (past_none _ (sym r.exit ∙ x)), λ x. r.exit ∙ ap past ((nothing_closes page e.offset).1 x));
      }

  -- one that never closes is found, and what is found never closes
  abbrev Unclosed : List Event → Type 0
  Unclosed events = (e : Event) × (behind : List Event) × Opened events e behind × NeverCloses page e.offset

  is_none_lem : (o : Option ℕ) → is_none o ≡ true → o ≡ none
  is_none_lem none e = refl
  is_none_lem (some c) e = clash false e refl

  any_found : (events : List Event) → any_unclosed page events ≡ true → Unclosed events
  any_found [] h = clash false h refl
  any_found (e ∷ events) h =
      or_cases (Unclosed (e ∷ events)) (unclosed page e) (any_unclosed page events) h
      (λ y. let p = both (opens e) (is_none (closing_of page e.offset)) y in
      (e, events, record { before = []; list = refl; opens = p.0 }, (nothing_closes page e.offset).0 (is_none_lem _ p.1)))
      (λ y. let u = any_found events y in
      (u.0, u.1, record { before = e ∷ u.2.before; list = ap (λ (l : List Event). e ∷ l) u.2.list; opens = u.2.opens }, u.3))

  found_any : (e : Event) (behind before : List Event) → opens e ≡ true → NeverCloses page e.offset → any_unclosed page (before ++ (e ∷ behind)) ≡ true
  found_any e behind [] o n = or_yes (unclosed page e) _ (and_yes (opens e) _ o (ap is_none ((nothing_closes page e.offset).1 n)))
  found_any e behind (x ∷ before) o n = or_yes' (unclosed page x) _ (found_any e behind before o n)

  all_by_the_rule : (events : List Event) (s : Scan) → AllRight page events → ends_inside s.tokenizer ≡ any_unclosed page events → AllByTheRule page (answer_of s) events
  all_by_the_rule events s all six =
      record {
        each = λ e behind o. closes_by_the_rule e behind (right_of events all e behind o);
        six = (
          λ h. any_found events (sym six ∙ said_ends s h),
          λ u. (ends_said s (six ∙ subst (λ (l : List Event). any_unclosed page l ≡ true) (sym u.2.list) (found_any u.0 u.1 u.2.before u.2.opens u.3))).0,
        );
      }

-- ---- from the start

module _
    (bytes : List ℕ) (at n start construct kind flags words : ℕ) (s : Scan)
    (low : eqb construct esm ≡ false)
    (even : eqb (flags % 2) 1 ≡ false)
    (e : begin_of bytes at n start construct kind flags words ≡ started s)
    (k : ℕ)
    (rested : Settled (run_scan (page_of bytes at n) k s))
  where
    abbrev page : List ℕ
    page = page_of bytes at n

    new : Begins bytes at n start construct kind flags words s
    new = begins bytes at n start construct kind flags words s e

    bytes_alone : Bytes page
    bytes_alone = formed_of_bytes new.text.formed

    going : Going page s
    going = going_begun bytes at n start construct kind flags words s low even e

    -- it begins in no expression, at its start, and returns nowhere
    not_inside : inside s.tokenizer.state ≡ false
    unfolding fresh_in within
    not_inside = rw new.fresh (first_is (λ (name : ℕ). inside name ≡ false) construct refl refl refl)

    at_start : s.tokenizer.at ≡ start
    unfolding fresh_in
    at_start = rw new.fresh refl

    back_done : s.tokenizer.regs.back ≡ state.done
    unfolding fresh_in
    back_done = rw new.fresh refl

    expression_first : construct ≡ expression → s.tokenizer.state ≡ state.mdx_expression_start
    unfolding fresh_in when◌then◌else◌
    expression_first c = rw (new.fresh, c) refl

    tag_ruled : Tag page start (answer_of (run_scan page k s)) (run_events page k s)
    tag_ruled =
        let o = outcome page bytes_alone k s going rested in
        all_by_the_rule page (run_events page k s) (run_scan page k s) o.each (o.six ∙ rw not_inside refl)

    expression_ruled : construct ≡ expression → Expression page start (answer_of (run_scan page k s)) (run_events page k s)
    expression_ruled c b =
        let x = expression_ends page bytes_alone s going (expression_first c) back_done (rw at_start b) k rested in
        by_the_rule page start (run_scan page k s) (subst (λ (brace : ℕ). Ending page brace (run_scan page k s).tokenizer) at_start x)

expressions_ruled : OfEveryRest expression Expression
expressions_ruled bytes at n start kind flags words s even e k rested = expression_ruled bytes at n start expression kind flags words s refl even e k rested refl

tags_ruled : OfEveryRest tag Tag
tags_ruled bytes at n start kind flags words s even e k rested = tag_ruled bytes at n start tag kind flags words s refl even e k rested

pub an_expression_closes_by_the_rule : ExpressionsClose
an_expression_closes_by_the_rule = every_way expression Expression expressions_ruled

pub a_tag_closes_its_expressions_by_the_rule : TagsClose
a_tag_closes_its_expressions_by_the_rule = every_way tag Tag tags_ruled
