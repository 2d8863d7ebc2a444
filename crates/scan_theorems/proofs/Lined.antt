-- The registers of every scan that calls gave are the page's lines, and so each event, and each answer that names a place, carries the line
-- and the column of its offset.
use Prim.Native.Nat.{ℕ, zero, suc, ◌+◌, ◌≤◌, ◌<◌}
use native.Mathlib.Omega.{arith}
use mathlib.Core.Path.{◌≡◌, refl, sym, ap, ◌∙◌}
use mathlib.Core.Bool.{Bool, true, false, not, ◌&&◌}
use mathlib.Core.List.{List, [], ◌∷◌, ◌++◌}
use lib.Dec.{leb, ltb, eqb}
use lib.ListN.{length}
use borrow.Author.Tests.{eqb-true, lt-ltb, ltb-false, leb-true}
use Rattle.base.proofs.Tables.{◌&◌, found}
use Rattle.base.specs.Byte.{tab, line_feed}
use Rattle.base.specs.If.{when◌then◌else◌, among}
use Rattle.base.proofs.Choice.{if_yes, if_is, case, both, not_yes}
use Rattle.base.specs.Page.{page_limit, byte_at}
use Rattle.base.specs.Tab.{columns_of}
use Rattle.base.specs.declared.InTab.{InTab}
use Rattle.base.specs.declared.InTab.TheVariants.{Outside}
use Rattle.base.specs.State.{asking, rests}
use Rattle.base.specs.Decide.{list_of}
use Rattle.base.specs.declared.Mark.{Mark}
use Rattle.base.specs.declared.Mark.TheVariants.{Enter, Exit, Leave}
use Rattle.base.specs.declared.Effect.{Effect}
use Rattle.base.specs.declared.Effect.TheVariants.{Keep, Deeper, Shallower, Open, PrefixBegins, PrefixGoesOn, PrefixEnds, PrefixInTab, Quote, Return, Save, Restore, Last, Fault, Refuse}
use Rattle.base.specs.declared.Move.{Move}
use Rattle.base.specs.declared.Verdict.{Verdict}
use Rattle.page.specs.declared.line.Line.{Line}
use Rattle.page.specs.Line.{line_of, column_of, line_at, passed_line}
use Rattle.page.specs.Page.{page_of}
use Rattle.page.proofs.Lines.{line_first, line_passed, line_within, column_within}
use Rattle.body_places.proofs.Place.{place_in_lem}
use Rattle.events.specs.declared.Event.{Event}
use Rattle.events.specs.declared.Point.{Point}
use Rattle.events.specs.Event.{point, event, events_at}
use Rattle.tokenizer.specs.declared.Job.{Job}
use Rattle.tokenizer.specs.declared.Regs.{Regs}
use Rattle.tokenizer.specs.Moved.{next_place, place_after, changed, moved}
use Rattle.tokenizer.specs.Ranges.{job_in_range, verdict_in_range}
use Rattle.scan.specs.declared.lines.Lines.{Lines}
use Rattle.scan.specs.declared.Scan.{Scan}
use Rattle.scan.specs.Answer.{Said, end_answers, page_answers, verdict_answers, verdict_refusal, refusal, answer_of}
use Rattle.scan.specs.Lines.{highest, highest_column, line_past, column_in, point_in, tab_next, within_end, lines_after}
use Rattle.scan.specs.Scan.{choice, carried_out, line_next, step_scan, step_events, run_scan, run_events}
use Rattle.scan.specs.Call.{given_scan, job_of, fresh_in, fresh_scan}
use Rattle.scan.specs.Alone.{told_scan, run_alone, events_alone}
use Rattle.scan.proofs.Begun.{begins}
use Rattle.scan.proofs.Kept.{step_job}
use Rattle.scan.proofs.Runs.{run_keeps}
use Rattle.scan_theorems.specs.Lines.{OnLines, LinesKept, EventPlaced, EachPlaced, AnswerPlaced, EventsPlaced, AnswersPlaced, ScansPlaced}
use Rattle.scan_theorems.specs.Statement.{Heard}
use Rattle.scan_theorems.proofs.Tests.{clash}
use Rattle.scan_theorems.proofs.There.{byte_there}
use Rattle.scan_theorems.proofs.FaultPlaces.{fault_in, Faults, faults, fault_within}
use Rattle.scan_theorems.proofs.Parts.{parts}
use Rattle.scan_theorems.proofs.Fresh.{length_short}
use Rattle.scan_theorems.proofs.Calls.{tokenizer_in_range, step_in_range, given_in_range, page_long, job_in_range_lem}
use Rattle.scan_theorems.proofs.Scans.{within_range, within_fresh, alone_keeps, calls_keep, told_keeps}

-- ---- the next line

module _ (page : List ℕ) (short : length page ≤ page_limit) (at : ℕ) (inside : at ≤ page_limit + 1) where
  -- no column is cut
  column_low : column_of page at < highest_column
  column_low = omega (arith, column_within page at)

  past_fed : eqb (byte_at page at) line_feed ≡ true → line_past (line_at page at) (byte_at page at) ≡ passed_line (line_at page at) (byte_at page at)
  unfolding when◌then◌else◌
  past_fed e = rw (e, lt-ltb (line_of page at) highest (omega (arith, line_within page at, place_in_lem page at (byte_there (byte_at page at) line_feed e refl))))

  past_on : eqb (byte_at page at) line_feed ≡ false → line_past (line_at page at) (byte_at page at) ≡ passed_line (line_at page at) (byte_at page at)
  unfolding when◌then◌else◌
  past_on e = rw (e, lt-ltb (column_of page at) highest_column column_low)

  -- the line past the byte of a place of the page: no number is cut
  pub past_is : line_past (line_at page at) (byte_at page at) ≡ line_at page (at + 1)
  past_is = case _ (eqb (byte_at page at) line_feed) past_fed past_on ∙ sym (line_passed page at)

  -- nor inside a tab
  pub column_is : (t : InTab) → column_in (line_at page at) t ≡ column_of page at + columns_of t
  column_is t =
      sym (if_yes ℕ (ltb (column_of page at) highest_column) (column_of page at + columns_of t) (column_of page at + columns_of t) (column_of page at) (lt-ltb (column_of page at) highest_column column_low) refl)

-- the point of an offset, so far inside a tab, by the definition
abbrev point_at : List ℕ → ℕ → InTab → Point
point_at page o t = point o (line_of page o) (column_of page o + columns_of t) t

point_is : (page : List ℕ) (o : ℕ) (t : InTab) → length page ≤ page_limit → o ≤ page_limit + 1 → point_in (line_at page o) t o ≡ point_at page o t
point_is page o t short h = ap (λ (c : ℕ). point o (line_of page o) c t) (column_is page short o h t)

-- ---- one step

-- the line of the byte that comes next
module _ (page : List ℕ) (short : length page ≤ page_limit) (at n : ℕ) (size : length page ≡ n) (line : Line) (e : line ≡ line_at page at) (inside : at ≤ n) where
  past_line : line_past line (byte_at page at) ≡ line_at page (at + 1)
  past_line = ap (λ (l : Line). line_past l (byte_at page at)) e ∙ past_is page short at (omega (arith, size))

  next_is : (eat : Bool) → (when eat && ltb at n then line_past line (byte_at page at) else line) ≡ line_at page (next_place at eat n)
  unfolding when◌then◌else◌
  next_is eat = case _ (eat && ltb at n) (λ l. rw l past_line) (λ l. rw l e)

-- a fault no further on than one past the page's end is where it is
pub not_cut : (page : List ℕ) (place : ℕ) → place ≤ length page + 1 → within_end page place ≡ place
not_cut page place h =
    if_is ℕ (λ (p : ℕ). p ≡ place) (ltb place (length page + 1)) place (length page + 1) (λ e. refl) (λ e. omega (arith, ltb-false place (length page + 1) e))

-- the three places and their lines, effect by effect
module _ (page : List ℕ) (at next : ℕ) (r : Regs) (after : Line) (t : InTab) (l : Lines) (x : after ≡ line_at page next) (h : l.line ≡ line_at page at) (k : l.kept ≡ line_at page r.saved) (f : l.fault ≡ line_at page r.fault) where
  abbrev Kept : Effect → Type 0
  Kept e =
      ((lines_after page e after t l).line ≡ line_at page (place_after e next r.saved))
      × ((lines_after page e after t l).kept ≡ line_at page (changed e at next r).saved)
      × ((lines_after page e after t l).fault ≡ line_at page (changed e at next r).fault)

  effect_keeps : (b : ℕ) (eat : Bool) (e : Effect) → at ≤ length page → fault_in at b eat e ≡ true → Kept e
  effect_keeps b eat Keep i g = (x, k, f)
  effect_keeps b eat Deeper i g = (x, k, f)
  effect_keeps b eat Shallower i g = (x, k, f)
  effect_keeps b eat Open i g = (x, k, f)
  effect_keeps b eat PrefixBegins i g = (x, k, f)
  effect_keeps b eat PrefixGoesOn i g = (x, k, f)
  effect_keeps b eat PrefixEnds i g = (x, k, f)
  effect_keeps b eat (PrefixInTab passed) i g = (x, k, f)
  effect_keeps b eat (Quote q) i g = (x, k, f)
  effect_keeps b eat (Return name) i g = (x, k, f)
  effect_keeps b eat Save i g = (x, h, f)
  effect_keeps b eat Restore i g = (k, k, f)
  effect_keeps b eat (Last n) i g = (x, k, f)
  effect_keeps b eat (Fault n place) i g = (x, k, ap (line_at page) (not_cut page place (omega (arith, leb-true place (at + 1) g, i))))
  effect_keeps b eat (Refuse site note) i g = (x, k, f)

-- how far inside a tab the next step stands, effect by effect
module _ (page : List ℕ) (at next : ℕ) (r : Regs) (after : Line) (t : InTab) (l : Lines) (e? : Bool) (h : 0 < columns_of t → byte_at page next ≡ tab) (same : e? ≡ false → next ≡ at) where
  abbrev Tabbed : Effect → Type 0
  Tabbed e = 0 < columns_of (lines_after page e after t l).tab → byte_at page (place_after e next r.saved) ≡ tab

  effect_tabs : (e : Effect) → fault_in at (byte_at page at) e? e ≡ true → Tabbed e
  effect_tabs Keep g = h
  effect_tabs Deeper g = h
  effect_tabs Shallower g = h
  effect_tabs Open g = h
  effect_tabs PrefixBegins g = h
  effect_tabs PrefixGoesOn g = h
  effect_tabs PrefixEnds g = h
  effect_tabs (PrefixInTab passed) g = λ p. let q = both (eqb (byte_at page at) tab) (not e?) g in rw (same (not_yes e? q.1)) (eqb-true (byte_at page at) tab q.0)
  effect_tabs (Quote q) g = h
  effect_tabs (Return name) g = h
  effect_tabs Save g = h
  effect_tabs Restore g = λ p. absurd (omega (arith, p))
  effect_tabs (Last n) g = h
  effect_tabs (Fault n place) g = h
  effect_tabs (Refuse site note) g = h

-- a fault that is in the page stays there
fault_stays : (n at next b : ℕ) (eat : Bool) (r : Regs) (e : Effect) → at ≤ n → r.fault ≤ n + 1 → fault_in at b eat e ≡ true → (changed e at next r).fault ≤ n + 1
fault_stays n at next b eat r Keep a f h = f
fault_stays n at next b eat r Deeper a f h = f
fault_stays n at next b eat r Shallower a f h = f
fault_stays n at next b eat r Open a f h = f
fault_stays n at next b eat r PrefixBegins a f h = f
fault_stays n at next b eat r PrefixGoesOn a f h = f
fault_stays n at next b eat r PrefixEnds a f h = f
fault_stays n at next b eat r (PrefixInTab passed) a f h = f
fault_stays n at next b eat r (Quote q) a f h = f
fault_stays n at next b eat r (Return name) a f h = f
fault_stays n at next b eat r Save a f h = f
fault_stays n at next b eat r Restore a f h = f
fault_stays n at next b eat r (Last k) a f h = f
fault_stays n at next b eat r (Fault k place) a f h = omega (arith, leb-true place (at + 1) h)
fault_stays n at next b eat r (Refuse site note) a f h = f

-- what a walk over the decisions says
faults_are : {at b : ℕ} {m : Move} → Faults at b m → fault_in at b m.eat m.effect ≡ true
faults_are (faults h) = h

-- what the range of a scan says of its page
module _ (page : List ℕ) (s : Scan) (h : OnLines page s) where
  page_short : length page ≤ page_limit
  page_short = let p = parts s.tokenizer (tokenizer_in_range s h.range) in omega (arith, h.size, length_short s.tokenizer.job p.job)

  at_inside : s.tokenizer.at ≤ length page
  at_inside = let p = parts s.tokenizer (tokenizer_in_range s h.range) in omega (arith, h.size, p.at)

module _ (page : List ℕ) (s : Scan) (r : rests s.tokenizer.state ≡ false) (h : OnLines page s) where
  abbrev m : Move
  m = carried_out s (choice page s)

  abbrev next : ℕ
  next = next_place s.tokenizer.at m.eat s.tokenizer.job.length

  told : fault_in s.tokenizer.at (byte_at page s.tokenizer.at) m.eat m.effect ≡ true
  unfolding choice
  told =
      if_is Move (λ (x : Move). fault_in s.tokenizer.at (byte_at page s.tokenizer.at) x.eat x.effect ≡ true) _ _ _ (λ f. refl)
      (λ f. faults_are (fault_within page s.tokenizer (byte_at page s.tokenizer.at) (tokenizer_in_range s h.range) r))

  stepped :
      ((step_scan page s).lines.line ≡ line_at page (step_scan page s).tokenizer.at)
      × ((step_scan page s).lines.kept ≡ line_at page (step_scan page s).tokenizer.regs.saved)
      × ((step_scan page s).lines.fault ≡ line_at page (step_scan page s).tokenizer.regs.fault)
  unfolding step_scan moved
  stepped =
      let at = s.tokenizer.at in
      effect_keeps page at next s.tokenizer.regs (line_next page s m) (tab_next m.eat s.lines.tab) s.lines
      (next_is page (page_short page s h) at s.tokenizer.job.length h.size s.lines.line h.line (omega (arith, at_inside page s h, h.size)) m.eat)
      h.line h.kept h.fault (byte_at page at) m.eat m.effect (at_inside page s h) told

  fault_inside : (step_scan page s).tokenizer.regs.fault ≤ length page + 1
  unfolding step_scan moved
  fault_inside =
      fault_stays (length page) s.tokenizer.at next (byte_at page s.tokenizer.at) m.eat s.tokenizer.regs m.effect (at_inside page s h) h.inside told

  -- a byte that is eaten is passed whole, and the scan stays where it is not
  next_tabbed : (eat : Bool) → 0 < columns_of (tab_next eat s.lines.tab) → byte_at page (next_place s.tokenizer.at eat s.tokenizer.job.length) ≡ tab
  unfolding when◌then◌else◌
  next_tabbed true p = absurd (omega (arith, p))
  next_tabbed false p = h.tabbed p

  next_same : (eat : Bool) → eat ≡ false → next_place s.tokenizer.at eat s.tokenizer.job.length ≡ s.tokenizer.at
  unfolding when◌then◌else◌
  next_same true e = clash _ refl e
  next_same false e = refl

  tab_stepped : 0 < columns_of (step_scan page s).lines.tab → byte_at page (step_scan page s).tokenizer.at ≡ tab
  unfolding step_scan moved
  tab_stepped =
      effect_tabs page s.tokenizer.at next s.tokenizer.regs (line_next page s m) (tab_next m.eat s.lines.tab) s.lines m.eat
      (next_tabbed m.eat) (next_same m.eat) m.effect told

step_on : (page : List ℕ) (s : Scan) → rests s.tokenizer.state ≡ false → OnLines page s → OnLines page (step_scan page s)
step_on page s r h =
    let k = stepped page s r h in
    record {
      range = step_in_range page s h.size r h.range;
      size = h.size ∙ sym (ap (λ (j : Job). j.length) (step_job page s));
      inside = fault_inside page s r h;
      line = k.0;
      tabbed = tab_stepped page s r h;
      kept = k.1;
      fault = k.2;
    }

-- ---- calls

given_on : (page : List ℕ) (s : Scan) (v : Verdict) → s.tokenizer.state ≡ asking → verdict_in_range v ≡ true → OnLines page s → OnLines page (given_scan s v)
unfolding given_scan
given_on page s v a g h =
    record {
      range = given_in_range s v a g h.range;
      size = h.size;
      inside = h.inside;
      line = h.line;
      tabbed = h.tabbed;
      kept = h.kept;
      fault = h.fault;
    }

fresh_on : (page : List ℕ) (j : Job) → job_in_range j ≡ true → length page ≡ j.length → OnLines page (fresh_scan page j)
unfolding fresh_in
fresh_on page j h l =
    record {
      range = within_range page (fresh_scan page j) (within_fresh page j h l);
      size = l;
      inside = omega arith;
      line = refl;
      tabbed = λ p. absurd (omega (arith, p));
      kept = sym (line_first page);
      fault = sym (line_first page);
    }

pub lines_are_the_pages : LinesKept
lines_are_the_pages bytes at n start construct kind flags words s e calls lent o =
    let b = begins bytes at n start construct kind flags words s e in
    let page = page_of bytes at n in
    let j = job_of construct kind flags n start words in
    calls_keep page (OnLines page) (step_on page) (given_on page) calls s lent o
    (rw b.fresh (fresh_on page j (job_in_range_lem bytes at n start construct kind flags words b.listed b.admitted) (page_long bytes at n start b.admitted)))

-- ---- events

-- at a place that is inside a tab only at one, and past it
module _ (page : List ℕ) (at : ℕ) (t : InTab) (h : 0 < columns_of t → byte_at page at ≡ tab) where
  here_placed : (kind : ℕ) (exit : Bool) → EventPlaced page (event kind exit (point_at page at t))
  here_placed kind exit = record { line = refl; column = refl; tabbed = h }

  past_placed : (kind : ℕ) → EventPlaced page (event kind true (point_at page (at + 1) Outside))
  past_placed kind = record { line = refl; column = refl; tabbed = λ p. absurd (omega (arith, p)) }

  marks_placed : (marks : List Mark) → EachPlaced page (events_at (point_at page at t) (point_at page (at + 1) Outside) marks)
  marks_placed [] = tt
  marks_placed (Enter kind ∷ marks) = (here_placed kind false, marks_placed marks)
  marks_placed (Exit kind ∷ marks) = (here_placed kind true, marks_placed marks)
  marks_placed (Leave kind ∷ marks) = (past_placed kind, marks_placed marks)

step_placed : (page : List ℕ) (s : Scan) → OnLines page s → EachPlaced page (step_events page s)
unfolding step_events
step_placed page s h =
    let at = s.tokenizer.at in
    let t = s.lines.tab in
    let short = page_short page s h in
    let in_page = at_inside page s h in
    let marks = list_of (carried_out s (choice page s)).marks in
    let here : point_in s.lines.line t at ≡ point_at page at t = ap (λ (l : Line). point_in l t at) h.line ∙ point_is page at t short (omega (arith, short, in_page)) in
    let past : point_in (line_past s.lines.line (byte_at page at)) Outside (at + 1) ≡ point_at page (at + 1) Outside =
    ap (λ (l : Line). point_in (line_past l (byte_at page at)) Outside (at + 1)) h.line
    ∙ ap (λ (l : Line). point_in l Outside (at + 1)) (past_is page short at (omega (arith, short, in_page)))
    ∙ point_is page (at + 1) Outside short (omega (arith, short, in_page)) in
    rw (here, past) (marks_placed page at t h.tabbed marks)

both_placed : (page : List ℕ) (a b : List Event) → EachPlaced page a → EachPlaced page b → EachPlaced page (a ++ b)
both_placed page [] b p q = q
both_placed page (e ∷ a) b p q = (p.0, both_placed page a b p.1 q)

pub events_carry_their_lines : EventsPlaced
unfolding run_events when◌then◌else◌
events_carry_their_lines page zero s h = tt
events_carry_their_lines page (suc k) s h =
    case _ (rests s.tokenizer.state) (λ e. rw e tt)
    (λ e. rw e (both_placed page (step_events page s) (run_events page k (step_scan page s)) (step_placed page s h) (events_carry_their_lines page k (step_scan page s) (step_on page s e h))))

-- ---- answers

-- a place's line and column, as an answer carries them
placed_is : (page : List ℕ) (place : ℕ) (line : Line) (t : InTab) → length page ≤ page_limit → place ≤ length page + 1 → line ≡ line_at page place
    → (line.number ≡ line_of page place) × (column_in line t ≡ column_of page place + columns_of t)
placed_is page place line t short h e =
    (ap (λ (l : Line). l.number) e, ap (λ (l : Line). column_in l t) e ∙ column_is page short place (omega (arith, short, h)) t)

pub answers_carry_their_lines : AnswersPlaced
unfolding answer_of refusal verdict_refusal among when◌then◌else◌
answers_carry_their_lines page s h =
    let P = AnswerPlaced page s in
    let short = page_short page s h in
    let here = placed_is page s.tokenizer.at s.lines.line s.lines.tab short (omega (arith, at_inside page s h)) h.line in
    let there = placed_is page s.tokenizer.regs.fault s.lines.fault Outside short h.inside h.fault in
    let n = s.tokenizer.state in
    if_is Said P (leb 32 n) _ _ (λ e q. here)
    (λ e.
    found P n (end_answers s) _ ((λ k q. clash false q refl) & (λ k q. clash false q refl) & (λ k q. here) & tt)
    (found P n (page_answers s) _ ((λ k q. here) & (λ k q. here) & (λ k q. here) & (λ k q. here) & tt)
    (found P n (verdict_answers s) _ ((λ k q. there) & (λ k q. here) & tt)
    (λ q. clash false q refl))))

-- ---- a scan from its start

told_on : (page : List ℕ) (s : Scan) (v : Verdict) → verdict_in_range v ≡ true → OnLines page s → OnLines page (told_scan s v)
told_on page s v g h = told_keeps (OnLines page) s v (λ e. given_on page s v e g h) h

alone_on : (page : List ℕ) (k : ℕ) (vs : List Verdict) (s : Scan) → Heard vs → OnLines page s → OnLines page (run_alone page k vs s)
alone_on page k = alone_keeps page k (OnLines page) (step_on page) (told_on page)

alone_placed : (page : List ℕ) (k : ℕ) (vs : List Verdict) (s : Scan) → Heard vs → OnLines page s → EachPlaced page (events_alone page k vs s)
unfolding events_alone
alone_placed page k [] s g h = events_carry_their_lines page k s h
alone_placed page k (v ∷ vs) s g h =
    both_placed page (run_events page k s) _ (events_carry_their_lines page k s h)
    (alone_placed page k vs (told_scan (run_scan page k s) v) g.1 (told_on page (run_scan page k s) v g.0 (run_keeps page (OnLines page) (step_on page) k s h)))

pub a_scan_carries_its_lines : ScansPlaced
a_scan_carries_its_lines page j k vs h l g =
    let f = fresh_on page j h l in
    (alone_placed page k vs (fresh_scan page j) g f, answers_carry_their_lines page (run_alone page k vs (fresh_scan page j)) (alone_on page k vs (fresh_scan page j) g f))
