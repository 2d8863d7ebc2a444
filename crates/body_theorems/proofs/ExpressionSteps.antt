-- Every step of an expression keeps what holds of it (`Kept`).
use Prim.Native.Nat.{ℕ, ◌+◌, ◌-◌, ◌≤◌, ◌<◌}
use native.Mathlib.Omega.{arith}
use native.Mathlib.Decide.{dec_le}
use mathlib.Core.Path.{◌≡◌, refl, sym, ap, ◌∙◌}
use mathlib.Core.Logic.{by_cases}
use mathlib.Core.Bool.{Bool, true, false}
use mathlib.Core.List.{List, [], ◌++◌, append-nil, append_assoc}
use lib.Dec.{ltb, eqb}
use lib.ListN.{length}
use borrow.Author.Tests.{eqb-true, eqb-false, lt-ltb, ltb-true, ltb-false, eq-eqb, ne_eqb}
use Rattle.base.specs.If.{when◌then◌else◌, among}
use Rattle.base.proofs.Choice.{case, both, or_left, or_right, or_cases, or_no, and_no', and_yes}
use Rattle.base.specs.Page.{byte_at}
use Rattle.base.specs.Byte.{tab, line_feed, space, left_brace, right_brace, end_of_page}
use Rattle.base.specs.State as state
use Rattle.base.specs.Tab.{columns_of}
use Rattle.base.specs.Kind.{line_ending, expression_data, line_prefix}
use Rattle.base.specs.Table.{find}
use Rattle.base.specs.Decide.{eat, eat_with, retry, retry_with}
use Rattle.base.specs.declared.InTab.{InTab}
use Rattle.base.specs.declared.Mark.TheVariants.{Enter, Exit, Leave}
use Rattle.base.specs.declared.Marks.TheVariants.{Nothing, One, Two}
use Rattle.base.specs.declared.Effect.TheVariants.{Deeper, Shallower, PrefixBegins, PrefixGoesOn, PrefixEnds, PrefixInTab, Last}
use Rattle.base.specs.declared.Move.{Move}
use Rattle.base.specs.declared.Verdict.{Verdict}
use Rattle.base.specs.declared.Verdict.TheVariants.{Fine, Unfinished, Wrong}
use Rattle.char_class.specs.Class.{is_space_or_tab}
use Rattle.body_places.specs.Body.{Cell, cells_at, prefix_after, in_prefix, splits, split_tab, begins_run, drift_at, cells_from, expression_cells, bytes_from}
use Rattle.mdx_expression.specs.Expression as expression
use Rattle.tokenizer.specs.declared.Regs.{Regs}
use Rattle.body_places.proofs.Place.{place_in_lem}
use Rattle.mdx_collect.proofs.Laws.{spaces_long}
use Rattle.scan_theorems.proofs.There.{byte_there}
use Rattle.scan_theorems.proofs.Tests.{clash}
use Rattle.body_theorems.specs.Events.{Runs, runs, slice_of, run_of, collect_one}
use Rattle.body_theorems.proofs.After.{After, pick}
use Rattle.body_theorems.proofs.Places.{left_at, drift_here, left_few, cells_grow, left_grows, drift_grows, cells_split, left_over, drift_begins, cells_stay, left_falls, drift_stays, part_one, slice_outside, slice_tab, run_more, slice_long, bytes_count, still}
use Rattle.body_theorems.proofs.Kept.{Seam, Held, Starts, Splits, Whole, Tabbed, IsBefore, IsInside, IsPrefix, Rest, phase_of, Kept, aside, to_aside, to_end, seam_grows, seam_stays, seam_begins, seam_there}

-- ---- which bytes a line prefix takes

-- another byte than a space, and than a tab, or none that may come
no_space : (b left : ℕ) → eqb b space ≡ false → in_prefix b left ≡ false
no_space b left e = and_no' (ltb 0 left) _ e

no_tab : (b left : ℕ) → eqb b tab ≡ false → splits b left ≡ false
no_tab b left e = and_no' (ltb 0 left) _ e

none_left : (b left : ℕ) → left ≡ 0 → (in_prefix b left ≡ false) × (splits b left ≡ false)
none_left b left e = rw e (refl, refl)

tab_no_space : (b left : ℕ) → splits b left ≡ true → in_prefix b left ≡ false
tab_no_space b left f =
    let e = eqb-true b tab (both (ltb 0 left) _ f).1 in
    no_space b left (ne_eqb b space (λ z. omega (arith, e, z)))

not_blank : (b : ℕ) → is_space_or_tab b ≡ false → (eqb b space ≡ false) × (eqb b tab ≡ false)
unfolding is_space_or_tab among
not_blank b e = (or_left (eqb b space) _ (or_right (eqb b tab) _ e), or_left (eqb b tab) _ e)

key_not : (b k j : ℕ) → b ≡ k → eqb k j ≡ false → eqb b j ≡ false
key_not b k j e f = rw e f

-- where places begin anew
run_begins : (b drift : ℕ) → begins_run b ≡ true → drift_at b drift ≡ 0
unfolding when◌then◌else◌
run_begins b drift e = rw e

run_goes_on : (b drift : ℕ) → eqb b line_feed ≡ false → eqb b right_brace ≡ false → drift_at b drift ≡ drift
unfolding among when◌then◌else◌
run_goes_on b drift e f = rw (e, f)

line_begins_run : (b : ℕ) → eqb b line_feed ≡ true → begins_run b ≡ true
unfolding among
line_begins_run b e = rw e

brace_begins_run : (b : ℕ) → eqb b right_brace ≡ true → begins_run b ≡ true
unfolding among
brace_begins_run b e = case _ (eqb b line_feed) (λ f. rw f) (λ f. rw (f, e))

-- what ends a run of data, but for the page's end
stops_begin : (b depth : ℕ) → expression.stops b depth ≡ true → eqb b end_of_page ≡ false → begins_run b ≡ true
stops_begin b depth e f =
    or_cases _ (eqb b end_of_page) _ e (λ p. clash _ p f)
    (λ p. or_cases _ (eqb b line_feed) _ p (λ l. line_begins_run b l) (λ c. brace_begins_run b (both (eqb b right_brace) _ c).0))

-- the columns that a prefix takes of a tab
taken_is : (size : ℕ) → size < 2 → columns_of (expression.taken size) + size ≡ 2
unfolding when◌then◌else◌
taken_is size h = case _ (eqb size 0) (λ e. rw e (omega (arith, eqb-true size 0 e))) (λ e. rw e (let z = eqb-false size 0 e in not_zero size h z))
  where
    not_zero : (size : ℕ) → size < 2 → (size ≡ 0 → ⊥) → 1 + size ≡ 2
    not_zero size h z = by_cases (dec_le size 0) (λ (l : size ≤ 0). absurd (z (omega arith))) (λ l. omega (arith, l))

-- nothing of the body yet
nothing_yet : (page : List ℕ) (at entered : ℕ) (v t : InTab) → columns_of v ≡ 0 → IsBefore page at at 0 v (runs [] entered t)
unfolding cells_from bytes_from
nothing_yet page at entered v t o =
    let e : at - at ≡ 0 = omega arith in
    record {
      held = record { from = omega arith; cells = rw e; seam = record { none = λ j. (rw e, rw e); some = λ j. absurd (j refl) } };
      starts = rw e;
      tabbed = record { split = λ s. clash _ (rw e at s) refl; whole = λ w. o };
      steady = λ f. rw e (still (byte_at page at));
    }

module _ (page : List ℕ) (asks : Bool) (n at : ℕ) (v : InTab) (g : Regs) (r : Runs) (size : length page ≡ n) where
  abbrev b : ℕ
  b = byte_at page at

  abbrev body : ℕ
  body = g.body

  abbrev left : ℕ
  left = left_at page body at

  abbrev drift : ℕ
  drift = drift_here page body at

  -- what holds in a state, and after a decision
  abbrev In : ℕ → Type 0
  In name = Kept page asks name at v g r

  abbrev Then : Move → Type 0
  Then m = After page (Kept page asks) n at v g r m

  inside_page : eqb b end_of_page ≡ false → at < n
  inside_page e = omega (arith, place_in_lem page at e, size)

  -- the slice of one byte
  one_long : (w : ℕ) → w ≡ 0 → length (slice_of page at w (at + 1)) ≡ 1
  unfolding slice_of when◌then◌else◌
  one_long w e =
      let u : at + 1 - at ≡ 1 = omega arith in
      rw (e, u) (bytes_count page 1 at)

  -- `{`
  pub start_kept : (token : ℕ) → In state.mdx_expression_start → Then (expression.start b token)
  unfolding phase_of find when◌then◌else◌ collect_one among
  start_kept token p =
      pick (λ e. record { kept = rw (lt-ltb at n (inside_page (byte_there b left_brace e refl))) (λ a. (nothing_yet page (at + 1) at _ _ refl, record { prefix = (p a).prefix; depth = (p a).depth })) }) (λ e. to_end page asks refl)

  -- ---- a byte that begins a run and is one: a line ending, or a `}` that was taken as data

  module _ (h : Held page at body g.joint r) (o : columns_of v ≡ 0) (s : Starts page at body) (w : Whole page at body) (d : drift_at b drift ≡ 0) where
    one_passed : r.cells ++ run_of page at (columns_of v) (at + 1) ≡ expression_cells page body (at + 1)
    one_passed =
        let z : at + drift_at b drift ≡ at = omega (arith, d) in
        ap (λ (l : List Cell). r.cells ++ l) (slice_outside page at (at + 1) (columns_of v) o ∙ part_one page at)
        ∙ sym (cells_grow page body at h.from s w ∙ rw (z, h.cells))

  -- ---- before data

  line_ended : In state.mdx_expression_before → eqb b line_feed ≡ true → Then (eat state.mdx_expression_eol_after (Two (Enter line_ending) (Leave line_ending)))
  unfolding phase_of find when◌then◌else◌ collect_one among
  line_ended k e =
      record {
        kept = rw (lt-ltb at n (inside_page (byte_there b line_feed e refl))) (λ a.
            let (q, rest) = k a in
            let h = q.held in
            let w = no_tab b left (key_not b line_feed tab (eqb-true b line_feed e) refl) in
            let d = run_begins b drift (line_begins_run b e) in (
              record {
                held = record {
                  from = omega (arith, h.from);
                  cells = one_passed h (q.tabbed.whole w) q.starts w d;
                  seam = seam_grows page at body g.joint h.seam h.from q.starts w;
                };
                left = left_grows page body at h.from q.starts w ∙ rw e;
                beyond = omega (arith, h.from);
                outside = refl;
                steady = drift_grows page body at h.from q.starts w ∙ d;
              },
              rest,
            ));
      }

  data_entered : In state.mdx_expression_before → eqb b end_of_page ≡ false → eqb b line_feed ≡ false → expression.closes b g.depth ≡ false → Then (retry state.mdx_expression_inside (One (Enter expression_data)))
  unfolding phase_of find when◌then◌else◌ collect_one among
  data_entered k f l c =
      record {
        kept = λ a.
            let (q, rest) = k a in
            let h = q.held in (
              record {
                from = h.from;
                to = omega arith;
                seam = h.seam;
                starts = q.starts;
                fresh = λ e. (h.cells, q.tabbed, q.steady f, or_no _ _ f (or_no _ _ l (rw rest.depth at c)));
                going = λ p. absurd (omega (arith, p));
              },
              rest,
            );
      }

  closed : (asks ≡ true → Rest g) → (token back : ℕ) → aside back ≡ true → Then (expression.close token back)
  closed p token back a = to_aside page asks a p

  -- the `}` that asks or closes
  brace_met : (x : Bool) (token back : ℕ) → asks ≡ x → aside back ≡ true → In state.mdx_expression_before → eqb b right_brace ≡ true → Then (when x then retry state.asking Nothing else expression.close token back)
  unfolding phase_of find when◌then◌else◌
  brace_met true token back y a k e =
      let (q, rest) = k y in
      let w = no_tab b left (key_not b right_brace tab (eqb-true b right_brace e) refl) in
      record { kept = (y, record { held = q.held; brace = eqb-true b right_brace e; outside = q.tabbed.whole w }, rest) }
  brace_met false token back y a k e = closed (λ z. clash _ z y) token back a

  pub before_kept : (last token back : ℕ) → aside back ≡ true → In state.mdx_expression_before → Then (expression.before b g.depth asks last token back)
  before_kept last token back a k =
      pick (λ e. pick (λ f. to_end page asks refl) (λ f. to_end page asks refl))
      (λ e. pick (λ f. line_ended k f) (λ f. pick (λ c. brace_met asks token back refl a k (both (eqb b right_brace) _ c).0) (λ c. data_entered k e f c)))

  -- ---- in a run of data

  -- where it is over it is not empty: what ends it is no data
  data_over : In state.mdx_expression_inside → expression.stops b g.depth ≡ true → Then (retry state.mdx_expression_before (One (Exit expression_data)))
  unfolding phase_of find when◌then◌else◌ collect_one among
  data_over k e =
      record {
        kept = λ a.
            let (q, rest) = k a in
            by_cases (dec_le at r.entered)
            (λ (l : at ≤ r.entered). let m = q.fresh (omega (arith, l, q.to)) in clash _ (rw rest.depth at e) m.3)
            (λ l.
            let m = q.going (omega (arith, l)) in (
              record {
                held = record { from = omega (arith, q.from, q.to); cells = m.0; seam = q.seam };
                starts = q.starts;
                tabbed = record { split = λ s. clash _ s m.2; whole = λ w. m.3 };
                steady = λ f. run_begins b drift (stops_begin b g.depth e f);
              },
              rest,
            ));
      }

  -- it goes on behind a byte that begins no run
  module _ (q : IsInside page at body g.joint v r) (e : eqb b line_feed ≡ false) (x : eqb b right_brace ≡ false) where
    h : body ≤ at
    h = omega (arith, q.from, q.to)

    no_prefix : prefix_after b ≡ 0
    unfolding when◌then◌else◌
    no_prefix = rw e

    -- what is to be shown of the next place, behind which no prefix may come
    onward : (o : InTab) → columns_of o ≡ 0 → left_at page body (at + 1) ≡ 0 → Seam page (at + 1) body g.joint
        → r.cells ++ run_of page r.entered (columns_of r.tab) (at + 1) ≡ expression_cells page body (at + 1)
        → r.entered + length (slice_of page r.entered (columns_of r.tab) (at + 1)) ≡ at + 1 + drift_here page body (at + 1)
        → IsInside page (at + 1) body g.joint o r
    onward o z l s c d =
        let none = none_left (byte_at page (at + 1)) (left_at page body (at + 1)) l in
        record {
          from = q.from;
          to = omega (arith, q.to);
          seam = s;
          starts = none.0;
          fresh = λ f. absurd (omega (arith, f, q.to));
          going = λ p. (c, d, none.1, z);
        }

    -- the rest of a tab that was split
    tab_passed : (o : InTab) → columns_of o ≡ 0 → r.entered ≡ at → Splits page at body → IsInside page (at + 1) body g.joint o r
    tab_passed o z f s =
        let m = q.fresh f in
        let t = m.1.split s in
        let k = left_few page body at in
        let some = ltb-true 0 left (both (ltb 0 left) _ s).0 in
        let y : slice_of page at left (at + 1) ≡ split_tab left = slice_tab page at left some in
        onward o z (left_over page body at h q.starts s) (seam_stays page at body g.joint q.seam t.1)
        (rw (f, t.0) (ap (λ (l : List ℕ). r.cells ++ cells_at at l) y ∙ sym (cells_split page body at h q.starts s ∙ rw m.0)))
        (rw (f, t.0, drift_begins page body at h q.starts s) (omega (arith, ap length y, spaces_long (4 - left), k, some)))

    -- the first byte of a run
    first_passed : (o : InTab) → columns_of o ≡ 0 → r.entered ≡ at → Whole page at body → IsInside page (at + 1) body g.joint o r
    first_passed o z f w =
        let m = q.fresh f in
        let t = m.1.whole w in
        let d = m.2 in
        let p : at + drift_at b drift ≡ at = omega (arith, d) in
        let u : at + 1 - at ≡ 1 = omega arith in
        let y = slice_outside page at (at + 1) (columns_of r.tab) t ∙ part_one page at in
        onward o z (left_grows page body at h q.starts w ∙ no_prefix) (seam_grows page at body g.joint q.seam h q.starts w)
        (rw f (ap (λ (l : List Cell). r.cells ++ l) y ∙ sym (cells_grow page body at h q.starts w ∙ rw (p, m.0))))
        (rw (f, drift_grows page body at h q.starts w) (omega (arith, d, one_long (columns_of r.tab) t)))

    -- one more
    next_passed : (o : InTab) → columns_of o ≡ 0 → r.entered < at → IsInside page (at + 1) body g.joint o r
    next_passed o z f =
        let m = q.going f in
        let v = columns_of r.tab in
        let w = m.2 in
        let d = run_goes_on b drift e x in
        onward o z (left_grows page body at h q.starts w ∙ no_prefix) (seam_grows page at body g.joint q.seam h q.starts w)
        (ap (λ (l : List Cell). r.cells ++ l) (run_more page r.entered at v f)
        ∙ sym (append_assoc r.cells (run_of page r.entered v at) _)
        ∙ rw (m.0, m.1) (sym (cells_grow page body at h q.starts w ∙ rw d)))
        (rw (drift_grows page body at h q.starts w, d) (omega (arith, slice_long page r.entered at v f, m.1)))

    goes_on_lem : (o : InTab) → columns_of o ≡ 0 → IsInside page (at + 1) body g.joint o r
    goes_on_lem o z =
        by_cases (dec_le at r.entered)
        (λ (l : at ≤ r.entered).
        let f : r.entered ≡ at = omega (arith, l, q.to) in
        case _ (splits b left) (λ s. tab_passed o z f s) (λ w. first_passed o z f w))
        (λ l. next_passed o z (omega (arith, l)))

  passed : In state.mdx_expression_inside → eqb b line_feed ≡ false → eqb b right_brace ≡ false → eqb b end_of_page ≡ false → Then (eat state.mdx_expression_inside Nothing)
  unfolding phase_of find when◌then◌else◌
  passed k e x f = record { kept = rw (lt-ltb at n (inside_page f)) (λ a. (goes_on_lem (k a).0 e x _ refl, (k a).1)) }

  -- with a verdict source no brace is counted, and none is data in the middle of a run
  deeper : asks ≡ false → Then (eat_with state.mdx_expression_inside Nothing Deeper)
  unfolding phase_of find when◌then◌else◌
  deeper y = record { kept = λ a. clash _ a y }

  shallower : In state.mdx_expression_inside → eqb b right_brace ≡ true → expression.stops b g.depth ≡ false → Then (eat_with state.mdx_expression_inside Nothing Shallower)
  unfolding phase_of find when◌then◌else◌
  shallower k x e =
      record {
        kept = λ a.
            let d = (k a).1.depth in
            let c = or_right (eqb b line_feed) _ (or_right (eqb b end_of_page) _ e) in
            clash _ (and_yes _ _ x (eq-eqb g.depth 0 d)) c;
      }

  pub inside_kept : In state.mdx_expression_inside → Then (expression.inside b g.depth asks)
  inside_kept k =
      pick (λ e. data_over k e)
      (λ e.
      let f = or_left (eqb b end_of_page) _ e in
      let l = or_left (eqb b line_feed) _ (or_right (eqb b end_of_page) _ e) in
      pick (λ c. pick (λ d. passed k l (key_not b left_brace right_brace (eqb-true b left_brace c) refl) f) (λ d. deeper d))
      (λ c. pick (λ d. shallower k d e) (λ d. passed k l d f)))

  -- ---- after a line ending, and in a line prefix

  prefix_begins : In state.mdx_expression_eol_after → Then (retry_with state.mdx_expression_prefix (One (Enter line_prefix)) PrefixBegins)
  unfolding phase_of find when◌then◌else◌ collect_one among
  prefix_begins k =
      record {
        kept = λ a.
            let (q, rest) = k a in
            let h = q.held in (
              record {
                held = record { from = h.from; cells = h.cells; seam = seam_begins page at body g.joint h.seam q.beyond q.left q.steady };
                sum = omega (arith, rest.prefix, q.left, q.outside);
                in_tab = λ p. absurd (omega (arith, p, q.outside));
                begun = seam_there page at body g.joint h.seam q.beyond;
                steady = q.steady;
              },
              rest.depth,
            );
      }

  line_begins : In state.mdx_expression_eol_after → is_space_or_tab b ≡ false → Then (retry state.mdx_expression_before Nothing)
  unfolding phase_of find when◌then◌else◌
  line_begins k e =
      record {
        kept = λ a.
            let (q, rest) = k a in
            let z = not_blank b e in
            let w = no_tab b left z.1 in (
              record {
                held = q.held;
                starts = no_space b left z.0;
                tabbed = record { split = λ s. clash _ s w; whole = λ _. q.outside };
                steady = λ f. ap (drift_at b) q.steady ∙ still b;
              },
              rest,
            );
      }

  pub eol_kept : In state.mdx_expression_eol_after → Then (expression.eol_after b)
  eol_kept k = pick (λ e. prefix_begins k) (λ e. line_begins k e)

  -- a space of the prefix
  prefix_passed : In state.mdx_expression_prefix → g.prefix < 2 → eqb b space ≡ true → Then (eat_with state.mdx_expression_prefix Nothing PrefixGoesOn)
  unfolding phase_of find when◌then◌else◌
  prefix_passed k d e =
      record {
        kept = rw (lt-ltb at n (inside_page (byte_there b space e refl)), lt-ltb g.prefix 2 d) (λ a.
            let (q, deep) = k a in
            let h = q.held in
            let o = outside_of q d in
            let y : in_prefix b left ≡ true = and_yes _ _ (lt-ltb 0 left (omega (arith, q.sum, o))) e in (
              record {
                held = record {
                  from = omega (arith, h.from);
                  cells = h.cells ∙ sym (cells_stay page body at h.from y ∙ append-nil _);
                  seam = seam_stays page at body g.joint h.seam q.begun;
                };
                sum = omega (arith, q.sum, o, d, left_falls page body at h.from y);
                in_tab = λ p. absurd (omega (arith, p));
                begun = q.begun;
                steady = drift_stays page body at h.from y ∙ q.steady;
              },
              deep,
            ));
      }
    where
      outside_of : IsPrefix page at body g.joint v g.prefix r → g.prefix < 2 → columns_of v ≡ 0
      outside_of q d =
          by_cases (dec_le (columns_of v) 0) (λ (l : columns_of v ≤ 0). omega arith) (λ l. let t = q.in_tab (omega (arith, l)) in absurd (omega (arith, t.1, q.sum, d)))

  -- a tab that the prefix ends in
  prefix_in_tab_lem : In state.mdx_expression_prefix → g.prefix < 2 → eqb b tab ≡ true → Then (retry_with state.mdx_expression_prefix Nothing (PrefixInTab (expression.taken g.prefix)))
  unfolding phase_of find when◌then◌else◌
  prefix_in_tab_lem k d e =
      record {
        kept = λ a.
            let (q, deep) = k a in
            let t = taken_is g.prefix d in
            let l : columns_of (expression.taken g.prefix) ≡ left = left_taken q d in (
              record {
                held = record { from = q.held.from; cells = q.held.cells; seam = q.held.seam };
                sum = omega (arith, l);
                in_tab = λ p. (and_yes _ _ (lt-ltb 0 left (omega (arith, p, l))) e, l);
                begun = q.begun;
                steady = q.steady;
              },
              deep,
            );
      }
    where
      left_taken : IsPrefix page at body g.joint v g.prefix r → g.prefix < 2 → columns_of (expression.taken g.prefix) ≡ left
      left_taken q d =
          let t = taken_is g.prefix d in
          by_cases (dec_le (columns_of v) 0) (λ (l : columns_of v ≤ 0). omega (arith, t, q.sum, l)) (λ l. let u = q.in_tab (omega (arith, l)) in absurd (omega (arith, u.1, q.sum, d)))

  -- the prefix is as long as it may be, or the byte is none of it
  prefix_over : In state.mdx_expression_prefix → expression.prefix_goes_on b g.prefix ≡ false → expression.prefix_in_tab b g.prefix ≡ false → Then (retry_with state.mdx_expression_before (One (Exit line_prefix)) PrefixEnds)
  unfolding phase_of find when◌then◌else◌ collect_one among
  prefix_over k e f =
      record {
        kept = λ a.
            let (q, deep) = k a in
            let t = spent q e f in (
              record {
                held = record { from = q.held.from; cells = q.held.cells; seam = q.held.seam };
                starts = t.0;
                tabbed = t.1;
                steady = λ z. ap (drift_at b) q.steady ∙ still b;
              },
              record { prefix = refl; depth = deep },
            );
      }
    where
      spent : IsPrefix page at body g.joint v g.prefix r → expression.prefix_goes_on b g.prefix ≡ false → expression.prefix_in_tab b g.prefix ≡ false → Starts page at body × Tabbed page at body g.joint v
      spent q e f =
          by_cases (dec_le (columns_of v) 0)
          (λ (l : columns_of v ≤ 0).
          let o : columns_of v ≡ 0 = omega arith in
          case _ (ltb g.prefix 2)
          (λ p.
          let s = case _ (eqb b space) (λ y. clash _ (and_yes _ _ p y) e) (λ y. y) in
          let t = case _ (eqb b tab) (λ y. clash _ (and_yes _ _ p y) f) (λ y. y) in
          (no_space b left s, record { split = λ y. clash _ y (no_tab b left t); whole = λ w. o }))
          (λ p.
          let z = none_left b left (omega (arith, q.sum, o, ltb-false g.prefix 2 p)) in
          (z.0, record { split = λ y. clash _ y z.1; whole = λ w. o })))
          (λ l.
          let t = q.in_tab (omega (arith, l)) in
          (tab_no_space b left t.0, record { split = λ y. (t.1, q.begun); whole = λ w. clash _ t.0 w }))

  pub prefix_kept : In state.mdx_expression_prefix → Then (expression.prefix b g.prefix)
  prefix_kept k =
      pick
      (λ e. let q = both (ltb g.prefix 2) _ e in prefix_passed k (ltb-true g.prefix 2 q.0) q.1)
      (λ e. pick (λ f. let q = both (ltb g.prefix 2) _ f in prefix_in_tab_lem k (ltb-true g.prefix 2 q.0) q.1) (λ f. prefix_over k e f))

  -- ---- the verdict

  brace_taken : In state.mdx_expression_verdict → (number : ℕ) → Then (eat_with state.mdx_expression_inside (One (Enter expression_data)) (Last number))
  unfolding phase_of find when◌then◌else◌ collect_one among
  brace_taken k number =
      let (y, q, rest) = k in
      let h = q.held in
      let e = q.brace in
      let s = no_space b left (key_not b right_brace space e refl) in
      let w = no_tab b left (key_not b right_brace tab e refl) in
      let d = run_begins b drift (brace_begins_run b (eq-eqb b right_brace e)) in
      let l : left_at page body (at + 1) ≡ 0 = left_grows page body at h.from s w ∙ rw e in
      let none = none_left (byte_at page (at + 1)) (left_at page body (at + 1)) l in
      record {
        kept = rw (lt-ltb at n (inside_page (byte_there b right_brace (eq-eqb b right_brace e) refl))) (λ a. (
          record {
            from = h.from;
            to = omega arith;
            seam = seam_grows page at body g.joint h.seam h.from s w;
            starts = none.0;
            fresh = λ f. absurd (omega (arith, f));
            going = λ p. (
              one_passed h q.outside s w d,
              rw (drift_grows page body at h.from s w) (omega (arith, d, one_long (columns_of v) q.outside)),
              none.1,
              refl,
            );
          },
          record { prefix = rest.prefix; depth = rest.depth },
        ));
      }

  pub verdict_kept : (heard : Verdict) (place token back : ℕ) → aside back ≡ true → In state.mdx_expression_verdict → Then (expression.verdict heard place token back)
  unfolding phase_of find when◌then◌else◌
  verdict_kept Fine place token back a k = closed (λ z. k.2) token back a
  verdict_kept (Unfinished number) place token back a k = brace_taken k number
  verdict_kept (Wrong number offset) place token back a k = to_end page asks refl
