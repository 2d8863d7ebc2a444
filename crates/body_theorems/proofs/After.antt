-- What is kept by a decision: a property of the scan's state, place, tab and registers, and of what its events have collected.
use Prim.Native.Nat.{ℕ, ◌+◌}
use mathlib.Core.Path.{◌≡◌, refl, ap, ap₂, ◌∙◌}
use mathlib.Core.Bool.{Bool, true, false}
use mathlib.Core.List.{List, [], ◌∷◌}
use Rattle.base.specs.If.{when◌then◌else◌}
use Rattle.base.proofs.Choice.{if_is}
use Rattle.base.specs.Decide.{list_of}
use Rattle.base.specs.Tab.{columns_of}
use Rattle.base.specs.declared.InTab.{InTab}
use Rattle.base.specs.declared.InTab.TheVariants.{Outside}
use Rattle.base.specs.declared.Mark.{Mark}
use Rattle.base.specs.declared.Mark.TheVariants.{Enter, Exit, Leave}
use Rattle.base.specs.declared.Effect.{Effect}
use Rattle.base.specs.declared.Effect.TheVariants.{Keep, Deeper, Shallower, Open, PrefixBegins, PrefixGoesOn, PrefixEnds, PrefixInTab, Quote, Return, Save, Restore, Last, Fault, Refuse}
use Rattle.base.specs.declared.Move.{Move}
use Rattle.page.specs.declared.line.Line.{Line}
use Rattle.events.specs.declared.Point.{Point}
use Rattle.events.specs.Event.{point, event, events_at}
use Rattle.tokenizer.specs.Moved.{next_place, place_after, changed}
use Rattle.tokenizer.specs.declared.Regs.{Regs}
use Rattle.scan.specs.declared.lines.Lines.{Lines}
use Rattle.scan.specs.Lines.{tab_next, lines_after}
use Rattle.body_theorems.specs.Events.{Runs, collect_enter, collect_exit, collect_one, collect_on}

-- the place, the registers and what is collected after a decision, which is made at a place of a page of n bytes
abbrev pub place_then : ℕ → ℕ → Regs → Move → ℕ
place_then n at g m = place_after m.effect (next_place at m.eat n) g.saved

abbrev pub regs_then : ℕ → ℕ → Regs → Move → Regs
regs_then n at g m = changed m.effect at (next_place at m.eat n) g

-- how far inside a tab the scan stands then
abbrev tab_after : Effect → InTab → InTab
tab_after Keep v = v
tab_after Deeper v = v
tab_after Shallower v = v
tab_after Open v = v
tab_after PrefixBegins v = v
tab_after PrefixGoesOn v = v
tab_after PrefixEnds v = v
tab_after (PrefixInTab passed) v = passed
tab_after (Quote b) v = v
tab_after (Return name) v = v
tab_after Save v = v
tab_after Restore v = Outside
tab_after (Last n) v = v
tab_after (Fault n place) v = v
tab_after (Refuse site note) v = v

abbrev pub tab_then : InTab → Move → InTab
tab_then v m = tab_after m.effect (tab_next m.eat v)

-- what is eaten leads into no tab
pub still_out : (v : InTab) → columns_of v ≡ 0 → (eat : Bool) → columns_of (tab_next eat v) ≡ 0
unfolding when◌then◌else◌
still_out v o true = refl
still_out v o false = o

pub tab_after_lem : (page : List ℕ) (e : Effect) (next : Line) (v : InTab) (l : Lines) → (lines_after page e next v l).tab ≡ tab_after e v
tab_after_lem page Keep next v l = refl
tab_after_lem page Deeper next v l = refl
tab_after_lem page Shallower next v l = refl
tab_after_lem page Open next v l = refl
tab_after_lem page PrefixBegins next v l = refl
tab_after_lem page PrefixGoesOn next v l = refl
tab_after_lem page PrefixEnds next v l = refl
tab_after_lem page (PrefixInTab passed) next v l = refl
tab_after_lem page (Quote b) next v l = refl
tab_after_lem page (Return name) next v l = refl
tab_after_lem page Save next v l = refl
tab_after_lem page Restore next v l = refl
tab_after_lem page (Last n) next v l = refl
tab_after_lem page (Fault n place) next v l = refl
tab_after_lem page (Refuse site note) next v l = refl

-- collecting asks only where an event stands and how far inside a tab, not in which line
abbrev pub runs_then : List ℕ → ℕ → InTab → Runs → Move → Runs
runs_then page at v r m = collect_on page r (events_at (point at 0 0 v) (point (at + 1) 0 0 Outside) (list_of m.marks))

one_same : (page : List ℕ) (r : Runs) (kind : ℕ) (exit : Bool) (p q : Point) → p.offset ≡ q.offset → p.tab ≡ q.tab → collect_one page r (event kind exit p) ≡ collect_one page r (event kind exit q)
unfolding collect_one
one_same page r kind exit p q e f = ap₂ (λ (o : ℕ) (t : InTab). when exit then collect_exit page r kind o else collect_enter r kind o t) e f

module _ (page : List ℕ) (here past here' past' : Point) (h : here.offset ≡ here'.offset) (ht : here.tab ≡ here'.tab) (p : past.offset ≡ past'.offset) (pt : past.tab ≡ past'.tab) where
  pub collects_same : (r : Runs) (marks : List Mark) → collect_on page r (events_at here past marks) ≡ collect_on page r (events_at here' past' marks)
  collects_same r [] = refl
  collects_same r (Enter kind ∷ marks) =
      collects_same (collect_one page r (event kind false here)) marks ∙ ap (λ (x : Runs). collect_on page x (events_at here' past' marks)) (one_same page r kind false here here' h ht)
  collects_same r (Exit kind ∷ marks) =
      collects_same (collect_one page r (event kind true here)) marks ∙ ap (λ (x : Runs). collect_on page x (events_at here' past' marks)) (one_same page r kind true here here' h ht)
  collects_same r (Leave kind ∷ marks) =
      collects_same (collect_one page r (event kind true past)) marks ∙ ap (λ (x : Runs). collect_on page x (events_at here' past' marks)) (one_same page r kind true past past' p pt)

pub record After (page : List ℕ) (K : ℕ → ℕ → InTab → Regs → Runs → Type 0) (n at : ℕ) (v : InTab) (g : Regs) (r : Runs) (m : Move) : Type 0 where
  pub kept : K m.next (place_then n at g m) (tab_then v m) (regs_then n at g m) (runs_then page at v r m)

-- whichever way a test goes
pub pick : {page : List ℕ} {K : ℕ → ℕ → InTab → Regs → Runs → Type 0} {n at : ℕ} {v : InTab} {g : Regs} {r : Runs} {t : Bool} {x y : Move} → (t ≡ true → After page K n at v g r x) → (t ≡ false → After page K n at v g r y) → After page K n at v g r (when t then x else y)
pick {page} {K} {n} {at} {v} {g} {r} {t} {x} {y} p q = if_is Move (After page K n at v g r) t x y p q
