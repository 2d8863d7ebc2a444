-- Of a whole run, up to its rest: what its events and its end say of the expressions of a tag or an expression.
use Prim.Native.Nat.{ℕ, zero, suc, ◌+◌}
use native.Mathlib.Omega.{arith}
use mathlib.Core.Path.{◌≡◌, refl, ap, ◌∙◌, subst}
use mathlib.Core.Bool.{Bool, true, false}
use mathlib.Core.List.{List, [], ◌++◌}
use mathlib.Core.Option.{none, some}
use lib.Dec.{ltb, eqb}
use lib.ListN.{length, get_or, get_or-eq_default}
use borrow.Author.Tests.{eqb-true, eq-eqb, ltb-true, ltb-false, lt-leb}
use Rattle.base.specs.If.{when◌then◌else◌}
use Rattle.base.proofs.Choice.{case, both, and_no, and_no'}
use Rattle.base.specs.Byte.{left_brace}
use Rattle.base.specs.Kind as kind
use Rattle.base.specs.Page.{byte_at}
use Rattle.base.specs.Range.{within}
use Rattle.base.specs.State as state
use Rattle.base.specs.State.{rests}
use Rattle.base.specs.Table.{find}
use Rattle.base.specs.Decide.{eat_with, list_of}
use Rattle.base.specs.declared.InTab.TheVariants.{Outside}
use Rattle.base.specs.declared.Mark.TheVariants.{Enter, Leave}
use Rattle.base.specs.declared.Marks.TheVariants.{Three}
use Rattle.base.specs.declared.Effect.TheVariants.{Open}
use Rattle.base.specs.declared.Move.{Move}
use Rattle.body_places.proofs.Place.{byte_in}
use Rattle.events.specs.declared.Event.{Event}
use Rattle.events.specs.declared.Point.{Point}
use Rattle.events.specs.Event.{events_at}
use Rattle.tokenizer.specs.Decision.{not_ascii, takes_ascii, expression_decision, state_decision, decision}
use Rattle.tokenizer.specs.Moved.{moved}
use Rattle.tokenizer.specs.Ranges.{esm}
use Rattle.tokenizer.specs.declared.Job.{Job}
use Rattle.tokenizer.specs.declared.Tokenizer.{Tokenizer}
use Rattle.scan.specs.declared.Scan.{Scan}
use Rattle.scan.specs.Lines.{line_past, point_in}
use Rattle.scan.specs.Scan.{choice, lacks, carried_out, marks_at, step_scan, step_events, run_scan, run_events}
use Rattle.scan.proofs.Kept.{step_job}
use Rattle.scan.proofs.Runs.{run_rest, events_rest}
use Rattle.brace_theorems.specs.Braces.{closing_of}
use Rattle.scan_theorems.proofs.Tests.{clash}
use Rattle.scan_theorems.proofs.Parts.{parts, low}
use Rattle.scan_theorems.proofs.Scans.{page_short}
use Rattle.scan_theorems.proofs.Counting.{Silent, silent_step}
use Rattle.page.proofs.Bytes.{Bytes}
use Rattle.brace_theorems.proofs.Turn.{inside, brace_of, token_of, ends_inside, Held, Begun, Turn, stays, begins, closes, ends}
use Rattle.brace_theorems.proofs.ExpressionTurns.{opens}
use Rattle.brace_theorems.proofs.Turns.{turns}
use Rattle.brace_theorems.proofs.Runs.{Outcome, after_same, after_begun, after_over, after_cut}

-- a scan of a tag or an expression without a verdict source
pub record Going (page : List ℕ) (s : Scan) : Type 0 where
  pub silent : Silent page s
  pub low : eqb s.tokenizer.job.construct esm ≡ false
  pub held : Held page s.tokenizer

-- ---- an expression that stands alone

-- in an expression that returns nowhere, so that the scan is done with it
pub record Alone (brace : ℕ) (t : Tokenizer) : Type 0 where
  pub within : inside t.state ≡ true
  pub from : brace_of t ≡ brace
  pub back : t.regs.back ≡ state.done

-- how the run ends: one past the closing offset, or at the page's end
pub data Ending (page : List ℕ) (brace : ℕ) (t : Tokenizer) : Type 0 where
  whole : (c : ℕ) → closing_of page brace ≡ some c → t.state ≡ state.done → t.at ≡ c + 1 → Ending page brace t
  torn : closing_of page brace ≡ none → ends_inside t ≡ true → t.at ≡ length page → Ending page brace t

-- it does not rest for want of room
abbrev pub Unfilled : Scan → Type 0
Unfilled s = eqb s.tokenizer.state state.full ≡ false

-- it rests for any other reason
pub record Settled (s : Scan) : Type 0 where
  pub rests : rests s.tokenizer.state ≡ true
  pub unfilled : Unfilled s

-- a run that does not come to its end for want of room has room at its first step
room_first : (page : List ℕ) (k : ℕ) (s : Scan) → Unfilled (run_scan page k s) → Unfilled s
room_first page k s u =
    case _ (eqb s.tokenizer.state state.full)
    (λ e.
    let q : rests s.tokenizer.state ≡ true = rw (eqb-true s.tokenizer.state state.full e) refl in
    rw (run_rest page s k q) at u)
    (λ e. e)

module _ (page : List ℕ) (bytes : Bytes page) where
  -- ---- one step

  module _ (s : Scan) (g : Going page s) (r : rests s.tokenizer.state ≡ false) (u : Unfilled (step_scan page s)) where
    abbrev t : Tokenizer
    t = s.tokenizer

    abbrev m : Move
    m = choice page s

    abbrev here : Point
    here = point_in s.lines.line s.lines.tab t.at

    abbrev there : Point
    there = point_in (line_past s.lines.line (byte_at page t.at)) Outside (t.at + 1)

    turn : Turn page t m
    unfolding choice
    turn =
        let sound = g.silent.within.sound in
        let p = parts t sound.range in
        turns page t g.held sound.size (page_short page t sound) bytes g.silent.counts p.regs.back (low t.job.construct t.state g.low p.state r)

    -- there is room for what it decides, since it would be full otherwise
    carried : carried_out s m ≡ m
    unfolding step_scan moved when◌then◌else◌
    carried = case _ (lacks s m) (λ l. clash true refl (rw l at u)) (λ l. rw l refl)

    step_moved : (step_scan page s).tokenizer ≡ moved t m
    unfolding step_scan
    step_moved = ap (moved t) carried

    step_marked : step_events page s ≡ events_at here there (list_of m.marks)
    unfolding step_events
    step_marked = ap (λ (x : Move). marks_at (byte_at page t.at) s (list_of x.marks)) carried

    step_going : Held page (moved t m) → Going page (step_scan page s)
    step_going h =
        record {
          silent = silent_step page s r g.silent;
          low = ap (λ (j : Job). eqb j.construct esm) (step_job page s) ∙ g.low;
          held = rw step_moved h;
        }

    -- the run behind this step is read already
    module _ (k : ℕ) (read : Going page (step_scan page s) → Outcome page (step_scan page s).tokenizer (run_events page k (step_scan page s)) (ends_inside (run_scan page k (step_scan page s)).tokenizer)) where
      abbrev more : List Event
      more = run_events page k (step_scan page s)

      abbrev last : Bool
      last = ends_inside (run_scan page k (step_scan page s)).tokenizer

      rest : Held page (moved t m) → Outcome page (moved t m) more last
      rest h = subst (λ (u : Tokenizer). Outcome page u more last) step_moved (read (step_going h))

      -- at the page's end in an expression the run is over
      stopped : ends_inside (moved t m) ≡ true → rests (step_scan page s).tokenizer.state ≡ true
      stopped e = rw (ap (λ (u : Tokenizer). u.state) step_moved ∙ eqb-true (moved t m).state state.eof (both (eqb (moved t m).state state.eof) _ e).0) refl

      by_turn : Turn page t m → Outcome page t (step_events page s ++ more) last
      by_turn (stays o x) = rw step_marked (after_same page t (moved t m) here there refl refl more last (rest x.held) (list_of m.marks) o x)
      by_turn (begins q x) = rw (step_marked, q) (after_begun page t (moved t m) here there refl refl more last (rest x.held) x)
      by_turn (closes q x) = rw (step_marked, q) (after_over page t (moved t m) here there refl refl more last (rest x.held) x)
      by_turn (ends q x) =
          let e = stopped x.now in
          rw (step_marked, q, events_rest page (step_scan page s) k e, run_rest page (step_scan page s) k e, step_moved, x.now) (after_cut page t (moved t m) here there refl refl x)

  -- ---- a run

  -- a scan that rests is in no expression
  resting : (s : Scan) → rests s.tokenizer.state ≡ true → inside s.tokenizer.state ≡ false
  unfolding within
  resting s r = and_no _ _ (lt-leb state.mdx_expression_before s.tokenizer.state (omega (arith, ltb-true s.tokenizer.state state.first_running r)))

  at_rest : (s : Scan) → Going page s → rests s.tokenizer.state ≡ true → Outcome page s.tokenizer [] (ends_inside s.tokenizer)
  at_rest s g r =
      let i = resting s r in
      record { own = λ x. clash (inside s.tokenizer.state) x i; each = tt; six = g.held.goes_on ∙ rw i refl }

  pub outcome : (k : ℕ) (s : Scan) → Going page s → Settled (run_scan page k s)
      → Outcome page s.tokenizer (run_events page k s) (ends_inside (run_scan page k s).tokenizer)
  unfolding run_scan run_events when◌then◌else◌
  outcome zero s g e = at_rest s g e.rests
  outcome (suc k) s g e =
      case _ (rests s.tokenizer.state) (λ r. rw r (at_rest s g r))
      (λ r.
      let o : Settled (run_scan page k (step_scan page s)) = rw r at e in
      let u = room_first page k (step_scan page s) o.unfilled in
      rw r (by_turn s g r u k (λ n. outcome k (step_scan page s) n o) (turn s g r u)))

  -- ---- an expression that stands alone

  module _ (brace : ℕ) (s : Scan) (g : Going page s) (a : Alone brace s.tokenizer) (r : rests s.tokenizer.state ≡ false) (u : Unfilled (step_scan page s)) where
    abbrev after : Tokenizer
    after = (step_scan page s).tokenizer

    -- a run that has ended stays where it is
    stays_there : (k : ℕ) → Ending page brace (moved s.tokenizer (choice page s)) → rests (moved s.tokenizer (choice page s)).state ≡ true
        → Ending page brace (run_scan page k (step_scan page s)).tokenizer
    stays_there k e q =
        let same = step_moved s g r u in
        let rested : rests after.state ≡ true = ap (λ (x : Tokenizer). rests x.state) same ∙ q in
        rw (run_rest page (step_scan page s) k rested, same) e

    by_turn_alone : (k : ℕ)
        → (Going page (step_scan page s) → Alone brace after → Ending page brace (run_scan page k (step_scan page s)).tokenizer)
        → Turn page s.tokenizer (choice page s)
        → Ending page brace (run_scan page k (step_scan page s)).tokenizer
    by_turn_alone k read (stays o x) =
        read (step_going s g r u x.held)
        (rw (step_moved s g r u) (record { within = x.alike ∙ a.within; from = x.brace a.within ∙ a.from; back = x.back a.within ∙ a.back }))
    by_turn_alone k read (begins q x) = clash (inside s.tokenizer.state) a.within x.was
    by_turn_alone k read (closes q x) =
        let done = x.state ∙ a.back in
        stays_there k (whole s.tokenizer.at (rw a.from at x.closing) done x.place) (rw done refl)
    by_turn_alone k read (ends q x) =
        let p = parts s.tokenizer g.silent.within.sound.range in
        let eof = eqb-true (moved s.tokenizer (choice page s)).state state.eof (both (eqb (moved s.tokenizer (choice page s)).state state.eof) _ x.now).0 in
        stays_there k (torn (rw a.from at x.closing) x.now (omega (arith, x.place, x.end, p.at, g.silent.within.sound.size))) (rw eof refl)

  pub ending : (brace k : ℕ) (s : Scan) → Going page s → Alone brace s.tokenizer → Settled (run_scan page k s)
      → Ending page brace (run_scan page k s).tokenizer
  unfolding run_scan when◌then◌else◌
  ending brace zero s g a e = clash (inside s.tokenizer.state) a.within (resting s e.rests)
  ending brace (suc k) s g a e =
      case _ (rests s.tokenizer.state) (λ r. clash (inside s.tokenizer.state) a.within (resting s r))
      (λ r.
      let o : Settled (run_scan page k (step_scan page s)) = rw r at e in
      let u = room_first page k (step_scan page s) o.unfilled in
      rw r (by_turn_alone brace s g a r u k (λ n x. ending brace k (step_scan page s) n x o) (turn s g r u)))

  -- the first step passes its `{`
  start_decides : (t : Tokenizer) → t.state ≡ state.mdx_expression_start → eqb (byte_at page t.at) left_brace ≡ true → decision page t (byte_at page t.at) ≡ eat_with state.mdx_expression_before (Three (Enter (token_of t)) (Enter kind.expression_marker) (Leave kind.expression_marker)) Open
  unfolding decision state_decision expression_decision find within when◌then◌else◌
  start_decides t e b = rw (and_no' (not_ascii (byte_at page t.at)) (takes_ascii t.state) (rw e refl), e, b) refl

  module _ (s : Scan) (g : Going page s) (e : s.tokenizer.state ≡ state.mdx_expression_start) (back : s.tokenizer.regs.back ≡ state.done) (h : get_or page s.tokenizer.at 0 ≡ left_brace) where
    runs : rests s.tokenizer.state ≡ false
    runs = rw e refl

    outside : inside s.tokenizer.state ≡ false
    unfolding within
    outside = rw e refl

    open_brace : eqb (byte_at page s.tokenizer.at) left_brace ≡ true
    open_brace =
        case _ (ltb s.tokenizer.at (length page))
        (λ l. eq-eqb _ _ (byte_in page s.tokenizer.at (ltb-true s.tokenizer.at (length page) l) ∙ h))
        (λ l. absurd (omega (arith, h, get_or-eq_default page 0 (ltb-false s.tokenizer.at (length page) l))))

    opened : Begun page s.tokenizer (moved s.tokenizer (choice page s))
    unfolding choice
    opened = rw (start_decides s.tokenizer e open_brace) (opens page s.tokenizer g.held g.silent.within.sound.size outside open_brace)

    alone : Unfilled (step_scan page s) → Alone s.tokenizer.at (step_scan page s).tokenizer
    alone u = rw (step_moved s g runs u) (record { within = opened.now; from = opened.brace; back = opened.back ∙ back })

    pub expression_ends : (k : ℕ) → Settled (run_scan page k s) → Ending page s.tokenizer.at (run_scan page k s).tokenizer
    unfolding run_scan when◌then◌else◌
    expression_ends zero x = clash (rests s.tokenizer.state) x.rests runs
    expression_ends (suc k) x =
        let o : Settled (run_scan page k (step_scan page s)) = rw runs at x in
        let u = room_first page k (step_scan page s) o.unfilled in
        rw runs (ending s.tokenizer.at k (step_scan page s) (step_going s g runs u opened.held) (alone u) o)
