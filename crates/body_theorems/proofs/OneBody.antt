-- The body that is handed over, the body by the page's lines and the body by the events are one, for every scan that calls gave.
use Prim.Native.Nat.{ℕ, suc, ◌+◌, ◌-◌}
use native.Mathlib.Omega.{arith}
use mathlib.Core.Path.{◌≡◌, refl, sym, ap, ◌∙◌}
use mathlib.Core.Bool.{true, false}
use mathlib.Core.List.{List, [], ◌∷◌, append-nil}
use lib.Dec.{eqb}
use lib.ListN.{length, drop, length-drop}
use lib.Seq.{length-take-le}
use borrow.Author.Tests.{eqb-true, eqb-false}
use Rattle.base.specs.If.{when◌then◌else◌}
use Rattle.base.proofs.Choice.{case, both, or_cases}
use Rattle.base.specs.State as state
use Rattle.base.specs.Table.{find}
use Rattle.base.specs.declared.Verdict.{Verdict}
use Rattle.body_places.specs.Body.{Cell, bytes_of, cells_from, expression_cells}
use Rattle.page.specs.Page.{page_of}
use Rattle.tokenizer.specs.Ranges.{esm, tag, job_in_range, verdict_in_range}
use Rattle.tokenizer.specs.Registers.{no_regs}
use Rattle.tokenizer.specs.declared.Job.{Job}
use Rattle.scan.specs.declared.Scan.{Scan}
use Rattle.scan.specs.Call.{runnable, run_of, givable, given_scan, give_of, fresh_in, fresh_scan, started, begin_of}
use Rattle.scan.specs.Statement.{Call, run, give, scan_after, call_events, events_after}
use Rattle.scan.proofs.Begun.{begins}
use Rattle.scan.proofs.Kept.{events_stay, events_are_read}
use Rattle.scan_theorems.proofs.Scans.{within_fresh, within_given}
use Rattle.scan_theorems.proofs.Calls.{job_in_range_lem}
use Rattle.mdx_collect.specs.Collect.{only_prefix, body_cells, body_of, asks_in, asked}
use Rattle.mdx_collect.proofs.Laws.{nothing}
use Rattle.body_theorems.specs.Events.{Runs, no_runs, collect_on, collect_events}
use Rattle.scan_theorems.specs.Lines.{OverPage}
use Rattle.body_theorems.specs.Statement.{line_cells, OfEveryAskingScan, OneBody}
use Rattle.body_theorems.proofs.Fold.{collect_append}
use Rattle.body_theorems.proofs.Places.{beyond, part}
use Rattle.body_theorems.proofs.Kept.{Seam, Held, Rest, phase_of}
use Rattle.body_theorems.proofs.EsmSteps.{Whole, block_phase_of}
use Rattle.body_theorems.proofs.Together.{Together, together_run}

-- ---- a call

module _ (page : List ℕ) (s : Scan) (r : Runs) (h : Together page s r) where
  pub together_given : (v : Verdict) → s.tokenizer.state ≡ state.asking → verdict_in_range v ≡ true → Together page (given_scan s v) r
  unfolding given_scan phase_of block_phase_of find when◌then◌else◌
  together_given v a g =
      record {
        within = within_given page s v h.within a g;
        expression = λ c. rw c (rw a at (h.expression c));
        block = λ c. rw c (rw a at (h.block c));
      }

  together_give : (v : Verdict) → Together page (give_of s v).scan r
  unfolding give_of givable when◌then◌else◌
  together_give v =
      case _ (givable s v)
      (λ e.
      let a = both (eqb s.tokenizer.state state.asking) _ e in
      rw e (together_given v (eqb-true s.tokenizer.state state.asking a.0) (both (verdict_in_range v) _ a.1).0))
      (λ e. rw e h)

  together_ran : (k : ℕ) (words : List ℕ) → Together page (run_of page k s words).scan (collect_on page r (call_events (run page k) s words))
  unfolding run_of when◌then◌else◌
  together_ran k words = case _ (runnable s (length page) (length words) k) (λ e. rw e (together_run page k s r h)) (λ e. rw e h)

pub together_calls : (page : List ℕ) (calls : List Call) (s : Scan) (words : List ℕ) (r : Runs) → OverPage page calls → Together page s r → Together page (scan_after calls s words) (collect_on page r (events_after calls s words))
together_calls page [] s words r o h = h
together_calls page (run over k ∷ calls) s words r o h =
    rw (o.0, collect_append)
    (together_calls page calls (run_of page k s words).scan (run_of page k s words).words (collect_on page r (call_events (run page k) s words)) o.1 (together_ran page s r h k words))
together_calls page (give v ∷ calls) s words r o h = together_calls page calls (give_of s v).scan words r o (together_give page s r h v)

-- ---- a new scan

at_rest : Rest no_regs
at_rest = record { prefix = refl; depth = refl }

together_fresh : (page : List ℕ) (j : Job) → job_in_range j ≡ true → length page ≡ j.length → Together page (fresh_scan page j) no_runs
unfolding fresh_in phase_of block_phase_of find when◌then◌else◌
together_fresh page j h l =
    record {
      within = within_fresh page j h l;
      expression = λ c. case _ (eqb j.construct tag) (λ e. rw (c, e) (λ a. at_rest)) (λ e. rw (c, e) (λ a. at_rest));
      block = λ c. rw c (refl, (refl, refl));
    }

pub together_new : (bytes : List ℕ) (at n start construct kind flags words : ℕ) (s : Scan) → begin_of bytes at n start construct kind flags words ≡ started s → Together (page_of bytes at n) s no_runs
together_new bytes at n start construct kind flags words s e =
    let b = begins bytes at n start construct kind flags words s e in
    let l : length (page_of bytes at n) ≡ n = length-take-le n (drop at bytes) (omega (arith, length-drop at bytes, b.admitted.lies)) in
    rw b.fresh (together_fresh (page_of bytes at n) _ (job_in_range_lem bytes at n start construct kind flags words b.listed b.admitted) l)

-- ---- where it asks

-- no byte of the body stands behind the seam
empty : (l : List Cell) → eqb (length l) 0 ≡ true → l ≡ []
empty [] e = refl
empty (x ∷ l) e = let z = eqb-true (suc (length l)) 0 e in absurd (omega arith)

module _ (page : List ℕ) (s : Scan) (c : eqb s.tokenizer.job.construct esm ≡ false) where
  abbrev body : ℕ
  body = s.tokenizer.regs.body

  abbrev at : ℕ
  at = s.tokenizer.at

  abbrev joint : ℕ
  joint = s.tokenizer.regs.joint

  behind_the_seam : Seam page at body joint → (joint ≡ 0 → ⊥) → only_prefix page joint at ≡ true → part page body joint ≡ expression_cells page body at
  unfolding only_prefix
  behind_the_seam k j o =
      let q = k.some j in
      let e : joint + (at - joint) ≡ at = omega (arith, q.1) in
      sym (rw e at (beyond page body joint q.0 (at - joint)) ∙ rw (q.3, q.4, empty (cells_from page 2 0 joint (at - joint)) o) (append-nil _) ∙ q.2)

  expression_body : Seam page at body joint → body_cells page s ≡ expression_cells page body at
  unfolding body_cells when◌then◌else◌
  expression_body k =
      case _ (eqb joint 0)
      (λ e. case _ (only_prefix page at at) (λ o. rw (c, e, o) (sym (k.none (eqb-true joint 0 e)).0)) (λ o. rw (c, e, o)))
      (λ e. case _ (only_prefix page joint at) (λ o. rw (c, e, o) (behind_the_seam k (λ j. eqb-false joint 0 e j) o)) (λ o. rw (c, e, o)))

  expression_lines : line_cells page s ≡ expression_cells page body at
  unfolding when◌then◌else◌
  expression_lines = rw c

  -- a verdict that is kept is not applied
  expression_held : (r : Runs) → Together page s r → asks_in s.tokenizer.state s.tokenizer.job.construct ≡ true → Held page at body joint r
  unfolding phase_of find when◌then◌else◌
  expression_held r h a =
      or_cases _ (eqb s.tokenizer.state state.asking) _ a
      (λ e. (rw (eqb-true s.tokenizer.state state.asking e) at (h.expression c)).1.held)
      (λ e. (rw (eqb-true s.tokenizer.state state.mdx_expression_verdict (rw c at e)) at (h.expression c)).1.held)

module _ (page : List ℕ) (s : Scan) (c : eqb s.tokenizer.job.construct esm ≡ true) where
  abbrev from : ℕ
  from = s.tokenizer.job.start

  block_body : body_cells page s ≡ part page from s.tokenizer.at
  unfolding body_cells when◌then◌else◌
  block_body = rw (c, sym (nothing page s.tokenizer.at s.tokenizer.at (omega arith)))

  block_lines : line_cells page s ≡ part page from s.tokenizer.at
  unfolding when◌then◌else◌
  block_lines = rw c

  block_held : (r : Runs) → Together page s r → asks_in s.tokenizer.state s.tokenizer.job.construct ≡ true → Whole page from s.tokenizer.at r
  unfolding block_phase_of find when◌then◌else◌
  block_held r h a =
      or_cases _ (eqb s.tokenizer.state state.asking) _ a
      (λ e. rw (eqb-true s.tokenizer.state state.asking e) at (h.block c).1)
      (λ e. rw (eqb-true s.tokenizer.state state.mdx_esm_verdict (rw c at e)) at (h.block c).1)

-- the cells of the body, three ways
pub one_body : (page : List ℕ) (s : Scan) (r : Runs) → Together page s r → asked s (length page) ≡ true → (body_cells page s ≡ line_cells page s) × (body_cells page s ≡ r.cells)
unfolding asked
one_body page s r h a =
    let q = (both (asks_in s.tokenizer.state s.tokenizer.job.construct) _ a).0 in
    case _ (eqb s.tokenizer.job.construct esm)
    (λ c. (block_body page s c ∙ sym (block_lines page s c), block_body page s c ∙ sym (block_held page s c r h q).cells))
    (λ c.
    let k = expression_held page s c r h q in
    let b = expression_body page s c k.seam in
    (b ∙ sym (expression_lines page s c), b ∙ sym k.cells))

pub the_body_is_what_the_events_say : OfEveryAskingScan OneBody
unfolding body_of
the_body_is_what_the_events_say bytes at n start construct kind flags lent s e calls over a =
    let page = page_of bytes at n in
    let h = together_calls page calls s lent no_runs over (together_new bytes at n start construct kind flags (length lent) s e) in
    let o = one_body page (scan_after calls s lent) (collect_events page (events_after calls s lent)) h a in
    (ap bytes_of o.0, ap bytes_of o.1, events_are_read lent _ _ _ (events_stay bytes at n start construct kind flags lent s e calls))
