-- In a worker expressions close where they close in a scan by itself, which demand 3 compares its pages with.
use Prim.Native.Nat.{ℕ, ◌%◌}
use native.Mathlib.Omega.{arith}
use mathlib.Core.Path.{◌≡◌, refl, sym, subst}
use mathlib.Core.Bool.{false}
use mathlib.Core.List.{List}
use lib.Dec.{eqb}
use lib.ListN.{length}
use Rattle.base.specs.Number as number
use Rattle.events.specs.declared.Event.{Event}
use Rattle.base.specs.declared.Verdict.{Verdict}
use Rattle.events.specs.Share.{share_of}
use Rattle.tokenizer.specs.Ranges.{expression, tag}
use Rattle.scan.specs.declared.Scan.{Scan}
use Rattle.scan.specs.Answer.{Said, answer_of}
use Rattle.scan.specs.Call.{started, begin_of}
use Rattle.scan.specs.Alone.{run_alone, events_alone}
use Rattle.scan.proofs.Begun.{begins}
use Rattle.scan_theorems.specs.Room.{NotFull}
use Rattle.brace_theorems.specs.Closing.{OfEveryScanAlone, Expression, Tag}
use Rattle.brace_theorems.proofs.Closing.{an_expression_closes_by_the_rule, a_tag_closes_its_expressions_by_the_rule}
use Rattle.worker.specs.Reply.{Left}
use Rattle.worker.specs.Worker.{start_of}
use Rattle.worker_theorems.specs.Calls.{Page}
use Rattle.worker_theorems.specs.Demand3.{bound, text_of, scan_alone, list_alone, begun}
use Rattle.worker_theorems.specs.Isolation.{History, early, Stays}
use Rattle.worker_theorems.specs.Closing.{OfEveryCountingPage, PlacedExpressionsClose, PlacedTagsClose}
use Rattle.worker_theorems.proofs.Demand3.{no_page_holds_up_another}
use Rattle.worker_theorems.proofs.Fair.{good_calls}
use Rattle.worker_theorems.proofs.Ranged.{started_ranged}
use Rattle.worker_theorems.proofs.Views.{view_placed}

-- the event buffer is as long as at the start
early_words : (h : History) → (start_of h.q (length h.events)).answer.number ≡ number.started → (early h).worker.words ≡ length h.events
early_words h starts =
    let len = length h.events in
    (good_calls len h.q h.before (begun h.q h.events) (record { ranged = started_ranged h.q len starts; room = refl })).ranged.lent

module _ (P : List ℕ → ℕ → Said → List Event → Type 0) (h : History) (i : ℕ) (stays : Stays h i) (vs : List Verdict) where
  abbrev p : Page
  p = h.page

  abbrev words : ℕ
  words = share_of (length h.events)

  abbrev Wanted : Type 0
  Wanted = P (text_of h.bytes p) p.start (answer_of (scan_alone h.bytes p vs words)) (list_alone h.bytes p vs words)

  -- what holds of every scan by itself holds of the one that the page was admitted with
  alone_placed : OfEveryScanAlone p.construct P → eqb (p.flags % 2) 1 ≡ false → NotFull (answer_of (scan_alone h.bytes p vs words)) → Wanted
  alone_placed of even unfilled =
      view_placed (λ (d : Left). Wanted) (early h).worker h.bytes p i stays.placed
      (λ s hi b.
      let c : begin_of h.bytes p.at p.long p.start p.construct p.kind p.flags words ≡ started s = rw (early_words h stays.starts) at b in
      let fresh = (begins h.bytes p.at p.long p.start p.construct p.kind p.flags words s c).fresh in
      subst (λ (x : Scan). P (text_of h.bytes p) p.start (answer_of (run_alone (text_of h.bytes p) (bound p) vs x)) (events_alone (text_of h.bytes p) (bound p) vs x)) fresh
      (of h.bytes p.at p.long p.start p.kind p.flags words s even c (bound p) vs (omega arith)
      (subst (λ (x : Scan). NotFull (answer_of (run_alone (text_of h.bytes p) (bound p) vs x))) (sym fresh) unfilled)))

place_of : (construct : ℕ) (P : List ℕ → ℕ → Said → List Event → Type 0) → OfEveryScanAlone construct P → OfEveryCountingPage construct P
place_of construct P of h i stays c even done unfilled =
    let promise = no_page_holds_up_another h.q h.events h.before h.since h.bytes h.page i stays.starts stays.placed stays.fair in
    let f = promise.finished done in
    rw (f.0, f.1) (alone_placed P h i stays _ (subst (λ (x : ℕ). OfEveryScanAlone x P) (sym c) of) even (rw f.0 at unfilled))

pub a_place_closes_an_expression_by_the_rule : PlacedExpressionsClose
a_place_closes_an_expression_by_the_rule = place_of expression Expression an_expression_closes_by_the_rule.alone

pub a_place_closes_a_tags_expressions_by_the_rule : PlacedTagsClose
a_place_closes_a_tags_expressions_by_the_rule = place_of tag Tag a_tag_closes_its_expressions_by_the_rule.alone
