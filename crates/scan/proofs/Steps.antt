-- How the code's step is the definition's, with events and without; and what a step keeps.
use Prim.Native.Nat.{ℕ, ◌+◌, ◌-◌, ◌≤◌, ◌<◌, ◌^◌}
use native.Mathlib.Omega.{arith}
use mathlib.Core.Path.{◌≡◌, refl, sym, ap, ◌∙◌}
use mathlib.Core.Bool.{Bool, true, false}
use mathlib.Core.List.{List, []}
use lib.ListN.{length}
use lib.Dec.{ltb, eqb}
use borrow.Author.Tests.{ltb-true, ltb-false, le-ltb}
use Rattle.base.specs.If.{when◌then◌else◌}
use Rattle.base.proofs.Choice.{if_no, if_is}
use Rattle.base.specs.Byte.{tab, line_feed}
use Rattle.base.specs.Page.{page_limit, byte_at}
use Rattle.base.specs.State.{full}
use Rattle.base.specs.Decide.{retry, list_of, count_of}
use Rattle.base.specs.declared.Marks.{Marks}
use Rattle.base.specs.declared.Marks.TheVariants.{Nothing, One, Two, Three, Four}
use Rattle.base.specs.declared.InTab.{InTab}
use Rattle.base.specs.declared.Effect.{Effect}
use Rattle.base.specs.declared.Effect.TheVariants.{Keep, Deeper, Shallower, Open, PrefixBegins, PrefixGoesOn, PrefixEnds, PrefixInTab, Quote, Return, Save, Restore, Last, Fault, Refuse}
use Rattle.base.specs.declared.Move.{Move}
use Rattle.page.specs.declared.line.Line.{Line}
use Rattle.page.specs.Line.{tab_stop, line_at}
use Rattle.page.proofs.Lines.{line_within, column_within}
use Rattle.events.specs.Words.{room_in, written}
use Rattle.events.proofs.Laws.{written_none}
use Rattle.tokenizer.specs.declared.Regs.{Regs}
use Rattle.tokenizer.specs.Moved.{one_more, next_place, place_after, changed, moved}
use Rattle.scan.specs.declared.lines.Lines.{Lines}
use Rattle.scan.specs.declared.Scan.{Scan}
use Rattle.scan.specs.Lines.{highest, highest_column, column_past, line_past, tab_next, within_end, lines_after}
use Rattle.scan.specs.Scan.{choice, lacks, carried_out, passes, line_next, lines_step, marks_at, moved_scan, step_scan, step_events}
use Rattle.scan.specs.Inner.{Low, Small, Fit, Counts}

-- ---- events

pub no_marks : (m : Marks) → count_of m ≡ 0 → list_of m ≡ []
no_marks Nothing e = refl
no_marks (One a) e = absurd (omega (arith, e))
no_marks (Two a b) e = absurd (omega (arith, e))
no_marks (Three a b c) e = absurd (omega (arith, e))
no_marks (Four a b c d) e = absurd (omega (arith, e))

-- ---- a step

-- what is carried out finds room for its events
pub carried_fits : (s : Scan) (m : Move) → s.used ≤ room_in s.tokenizer.job.words → s.used + count_of (carried_out s m).marks ≤ room_in s.tokenizer.job.words
carried_fits s m h =
    if_is Move (λ (r : Move). s.used + count_of r.marks ≤ room_in s.tokenizer.job.words) (lacks s m) (retry full Nothing) m
    (λ e. omega arith)
    (λ e. omega (arith, ltb-false (room_in s.tokenizer.job.words - s.used) (count_of m.marks) e))

module _ (page words : List ℕ) (s : Scan) (b : ℕ) (byte : b ≡ byte_at page s.tokenizer.at) (m : Move) where
  -- the decision is carried out
  pub stepped : m ≡ carried_out s (choice page s) → (moved_scan s m (count_of m.marks) (lines_step page s m) ≡ step_scan page s) × (written words s.used (marks_at b s (list_of m.marks)) ≡ written words s.used (step_events page s))
  unfolding step_scan step_events
  stepped e = (rw (← e), rw (← e, byte))

  -- one with no events always is, and no word changes
  pub none : m ≡ choice page s → count_of m.marks ≡ 0 → (moved_scan s m 0 (lines_step page s m) ≡ step_scan page s) × (words ≡ written words s.used (step_events page s))
  none e z =
      let carried : carried_out s m ≡ m = sym (if_no _ _ m (retry full Nothing) m (le-ltb _ (count_of m.marks) (omega (arith, z))) refl) in
      let f = stepped (sym carried ∙ ap (carried_out s) e) in
      (rw z at f.0, sym (rw (no_marks m.marks z) (written_none words s.used)) ∙ f.1)

-- ---- what a step asks

pub few_count : (s : Scan) (n w k : ℕ) → Fit s n w → w < 2 ^ 64 → k ≤ 4 → Counts s k
few_count s n w k f h l = record { short = omega (arith, f.long, f.short); start = omega (arith, f.long, f.start); used = omega (arith, f.used) }

-- ---- what a step keeps

next_within : (at n : ℕ) (eat : Bool) → at ≤ n → next_place at eat n ≤ n
unfolding when◌then◌else◌
next_within at n true h = if_is ℕ (λ (k : ℕ). k ≤ n) (ltb at n) (at + 1) at (λ e. omega (arith, ltb-true at n e)) (λ e. h)
next_within at n false h = h

module _ (n at next saved : ℕ) (a : at ≤ n) (x : next ≤ n) (v : saved ≤ n) where
  place_within : (e : Effect) → place_after e next saved ≤ n
  place_within Keep = x
  place_within Deeper = x
  place_within Shallower = x
  place_within Open = x
  place_within PrefixBegins = x
  place_within PrefixGoesOn = x
  place_within PrefixEnds = x
  place_within (PrefixInTab t) = x
  place_within (Quote b) = x
  place_within (Return name) = x
  place_within Save = x
  place_within Restore = v
  place_within (Last k) = x
  place_within (Fault k p) = x
  place_within (Refuse w k) = x

saved_within : (n at next : ℕ) (r : Regs) → at ≤ n → r.saved ≤ n → (e : Effect) → (changed e at next r).saved ≤ n
saved_within n at next r a v Keep = v
saved_within n at next r a v Deeper = v
saved_within n at next r a v Shallower = v
saved_within n at next r a v Open = v
saved_within n at next r a v PrefixBegins = v
saved_within n at next r a v PrefixGoesOn = v
saved_within n at next r a v PrefixEnds = v
saved_within n at next r a v (PrefixInTab t) = v
saved_within n at next r a v (Quote b) = v
saved_within n at next r a v (Return name) = v
saved_within n at next r a v Save = a
saved_within n at next r a v Restore = v
saved_within n at next r a v (Last k) = v
saved_within n at next r a v (Fault k p) = v
saved_within n at next r a v (Refuse w k) = v

-- the numbers of lines stay as small as a page's are
one_more_small : (n limit : ℕ) → n ≤ limit → one_more n limit ≤ limit
one_more_small n limit h = if_is ℕ (λ (k : ℕ). k ≤ limit) (ltb n limit) (n + 1) n (λ e. omega (arith, ltb-true n limit e)) (λ e. h)

-- and so do those of columns
stop_low : (c : ℕ) → c < highest_column → tab_stop c ≤ highest_column
stop_low c h = omega arith

column_low : (c b : ℕ) → c ≤ highest_column → column_past c b ≤ highest_column
column_low c b h =
    if_is ℕ (λ (k : ℕ). k ≤ highest_column) (ltb c highest_column) _ c
    (λ e.
    let l = ltb-true c highest_column e in
    if_is ℕ (λ (k : ℕ). k ≤ highest_column) (eqb b tab) (tab_stop c) (c + 1) (λ f. stop_low c l) (λ f. omega arith))
    (λ e. h)

pub past_low : (line : Line) (b : ℕ) → Low line → Low (line_past line b)
past_low line b h =
    if_is Line Low (eqb b line_feed) _ _
    (λ e. record { number = one_more_small line.number highest h.number; column = omega arith })
    (λ e. record { number = h.number; column = column_low line.column b h.column })

next_low : (page : List ℕ) (s : Scan) (m : Move) → Low s.lines.line → Low (line_next page s m)
next_low page s m h = if_is Line Low (passes s m) _ s.lines.line (λ e. past_low s.lines.line (byte_at page s.tokenizer.at) h) (λ e. h)

-- no line of a page has a higher number than the page's end, and no column
end_low : (page : List ℕ) (place : ℕ) → length page ≤ page_limit → Low (line_at page (within_end page place))
end_low page place h =
    let l : within_end page place ≤ length page + 1 =
    if_is ℕ (λ (k : ℕ). k ≤ length page + 1) (ltb place (length page + 1)) place (length page + 1) (λ e. omega (arith, ltb-true place (length page + 1) e)) (λ e. omega arith) in
    record { number = omega (arith, l, line_within page (within_end page place)); column = omega (arith, l, column_within page (within_end page place)) }

module _ (page : List ℕ) (short : length page ≤ page_limit) (next : Line) (t : InTab) (l : Lines) (x : Low next) (h : Small l) where
  pub after_small : (e : Effect) → Small (lines_after page e next t l)
  after_small Keep = (x, h.1, h.2)
  after_small Deeper = (x, h.1, h.2)
  after_small Shallower = (x, h.1, h.2)
  after_small Open = (x, h.1, h.2)
  after_small PrefixBegins = (x, h.1, h.2)
  after_small PrefixGoesOn = (x, h.1, h.2)
  after_small PrefixEnds = (x, h.1, h.2)
  after_small (PrefixInTab passed) = (x, h.1, h.2)
  after_small (Quote b) = (x, h.1, h.2)
  after_small (Return name) = (x, h.1, h.2)
  after_small Save = (x, h.0, h.2)
  after_small Restore = (h.1, h.1, h.2)
  after_small (Last k) = (x, h.1, h.2)
  after_small (Fault k p) = (x, h.1, end_low page p short)
  after_small (Refuse w k) = (x, h.1, h.2)

pub step_small : (page : List ℕ) (s : Scan) (m : Move) → length page ≤ page_limit → Small s.lines → Small (lines_step page s m)
step_small page s m short h = after_small page short (line_next page s m) (tab_next m.eat s.lines.tab) s.lines (next_low page s m h.0) h m.effect

-- whatever is decided, the scan fits its page and its words after it, if its events do
pub fit_moved : (s : Scan) (n w : ℕ) (m : Move) (k : ℕ) (lines : Lines) → Fit s n w → s.used + k ≤ room_in w → Small lines → Fit (moved_scan s m k lines) n w
unfolding moved
fit_moved s n w m k lines f h l =
    let next = next_place s.tokenizer.at m.eat s.tokenizer.job.length in
    let x : next ≤ n = rw f.long (next_within s.tokenizer.at n m.eat f.at) in
    record {
      long = f.long;
      short = f.short;
      start = f.start;
      at = place_within n s.tokenizer.at next s.tokenizer.regs.saved f.at x f.saved m.effect;
      saved = saved_within n s.tokenizer.at next s.tokenizer.regs f.at f.saved m.effect;
      words = f.words;
      used = h;
      lines = l;
    }

pub fit_step : (page : List ℕ) (s : Scan) (w : ℕ) → Fit s (length page) w → Fit (step_scan page s) (length page) w
unfolding step_scan
fit_step page s w f =
    fit_moved s (length page) w (carried_out s (choice page s)) (count_of (carried_out s (choice page s)).marks) (lines_step page s (carried_out s (choice page s))) f
    (let used : s.used ≤ room_in s.tokenizer.job.words = omega (arith, f.used, f.words) in omega (arith, carried_fits s (choice page s) used, f.words))
    (step_small page s (carried_out s (choice page s)) f.short f.lines)
