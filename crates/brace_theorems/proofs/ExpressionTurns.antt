-- A step of an expression: the registers count braces as the rule does, and so the `}` at which it closes is the closing offset.
use Prim.Native.Nat.{ℕ, ◌+◌, ◌-◌, ◌≤◌, ◌<◌}
use native.Mathlib.Omega.{arith}
use mathlib.Core.Path.{◌≡◌, refl, sym, ap, ◌∙◌}
use mathlib.Core.Bool.{Bool, true, false, ◌&&◌}
use mathlib.Core.List.{List}
use lib.Dec.{ltb, eqb}
use lib.ListN.{length}
use borrow.Author.Tests.{lt-ltb, eqb-true, eqb-false}
use Rattle.base.specs.If.{when◌then◌else◌, among}
use Rattle.base.proofs.Choice.{if_is, both, and_no, or_left, or_right, keyed}
use Rattle.base.specs.Range.{within}
use Rattle.base.specs.Byte.{left_brace, right_brace, line_feed, space, end_of_page}
use Rattle.base.specs.Kind as kind
use Rattle.base.specs.Page.{byte_at, page_limit}
use Rattle.base.specs.State as state
use Rattle.base.specs.Decide.{list_of, retry, eat, eat_with, retry_with, refuse}
use Rattle.base.specs.declared.Mark.TheVariants.{Enter, Exit, Leave}
use Rattle.base.specs.declared.Marks.TheVariants.{Nothing, One, Two, Three}
use Rattle.base.specs.declared.Effect.TheVariants.{Deeper, Shallower, Open, PrefixGoesOn, PrefixEnds, PrefixInTab}
use Rattle.base.specs.declared.Move.{Move}
use Rattle.body_places.proofs.Place.{byte_in, place_in_lem}
use Rattle.char_class.specs.Class.{is_space_or_tab}
use Rattle.mdx_expression.specs.Expression as expression
use Rattle.mdx_expression.specs.Expression.{in_expression}
use Rattle.tokenizer.specs.Decision.{expression_token}
use Rattle.tokenizer.specs.Moved.{one_more, next_place, moved}
use Rattle.tokenizer.specs.Ranges.{is_return}
use Rattle.tokenizer.specs.declared.Tokenizer.{Tokenizer}
use Rattle.scan_theorems.proofs.Tests.{clash}
use Rattle.scan_theorems.proofs.There.{byte_there}
use Rattle.scan_theorems.proofs.Unasked.{Counts}
use Rattle.brace_theorems.proofs.Braces.{Passed, passed_depth, passed_first, passed_closes, passed_ends, passed_more}
use Rattle.page.proofs.Bytes.{Bytes}
use Rattle.brace_theorems.proofs.PageEnd.{end_is_end}
use Rattle.brace_theorems.proofs.Turn.{inside, brace_of, token_of, Held, other_marks, Begun, Turn, stays, begins, closes, ends}
use Rattle.brace_theorems.proofs.TagTurns.{return_outside, aside, left_alone}

-- one for a test that holds, none for one that does not
abbrev one : Bool → ℕ
one t = when t then 1 else 0

one_yes : (t : Bool) → t ≡ true → one t ≡ 1
unfolding when◌then◌else◌
one_yes t e = rw e refl

one_no : (t : Bool) → t ≡ false → one t ≡ 0
unfolding when◌then◌else◌
one_no t e = rw e refl

module _ (page : List ℕ) (t : Tokenizer) (held : Held page t) where
  abbrev at : ℕ
  at = t.at

  abbrev b : ℕ
  b = byte_at page at

  abbrev depth : ℕ
  depth = t.regs.depth

  module _ (size : length page ≡ t.job.length) (was : inside t.state ≡ true) where
    passed : Passed page (brace_of t) at depth
    passed = held.passed was

    -- the expression goes on
    goes_on_lem : (m : Move) → inside m.next ≡ true → eqb m.next state.eof ≡ false → other_marks (list_of m.marks) ≡ true
        → (moved t m).regs.body ≡ t.regs.body → (moved t m).regs.back ≡ t.regs.back → Passed page (brace_of t) (moved t m).at (moved t m).regs.depth → Turn page t m
    unfolding moved
    goes_on_lem m i f o body back p =
        stays o
        (record {
          held = record {
            outside = λ x. clash (inside m.next) i x;
            passed = λ x. rw body p;
            goes_on = and_no (eqb m.next state.eof) _ f;
          };
          alike = i ∙ sym was;
          brace = λ x. ap (λ (n : ℕ). n - 1) body;
          token = λ x. ap (expression_token t.job.kind) back;
          back = λ x. back;
        })

    -- past a byte that does not close it
    passes : (next : ℕ) → eqb b end_of_page ≡ false → (eqb b right_brace && eqb depth 0) ≡ false
        → one (eqb b left_brace) + depth ≡ one (eqb b right_brace) + next → Passed page (brace_of t) (next_place at true t.job.length) next
    unfolding when◌then◌else◌
    passes next e f d =
        let l = place_in_lem page at e in
        let same = byte_in page at l in
        rw (lt-ltb at t.job.length (omega (arith, l, size))) (passed_more page (brace_of t) at depth passed next l (rw (sym same) f) (rw (sym same) d))

    -- a byte that is no brace
    passes_other : eqb b end_of_page ≡ false → eqb b left_brace ≡ false → eqb b right_brace ≡ false → Passed page (brace_of t) (next_place at true t.job.length) depth
    unfolding when◌then◌else◌
    passes_other e l r = passes depth e (and_no (eqb b right_brace) _ r) (rw (l, r) refl)

    -- at the page's end: nothing closed it
    cut_off : Bytes page → eqb b end_of_page ≡ true → Turn page t (refuse state.eof in_expression 0)
    unfolding moved when◌then◌else◌
    cut_off bytes e =
        let end = end_is_end page at bytes e in
        ends refl (record { was = was; now = refl; closing = passed_ends page (brace_of t) at depth passed end; place = refl; end = end })

    -- past a line ending
    line_ends : eqb b end_of_page ≡ false → eqb b line_feed ≡ true → Turn page t (eat state.mdx_expression_eol_after (Two (Enter kind.line_ending) (Leave kind.line_ending)))
    unfolding moved within among
    line_ends e f =
        let k = eqb-true b line_feed f in
        goes_on_lem _ refl refl refl refl refl (passes_other e (keyed b line_feed left_brace k refl) (keyed b line_feed right_brace k refl))

    -- at the `}` that closes
    closed : is_return t.regs.back ≡ true → expression.closes b depth ≡ true → Turn page t (expression.close (token_of t) t.regs.back)
    unfolding moved when◌then◌else◌
    closed h c =
        let r = return_outside t.regs.back h in
        let e = both (eqb b right_brace) (eqb depth 0) c in
        let l = place_in_lem page at (byte_there b right_brace e.0 refl) in
        let same = byte_in page at l in
        closes refl
        (record {
          held = record {
            outside = λ x. eqb-true depth 0 e.1;
            passed = λ x. clash (inside t.regs.back) x r.0;
            goes_on = and_no (eqb t.regs.back state.eof) _ r.1;
          };
          was = was;
          now = r.0;
          closing = passed_closes page (brace_of t) at depth passed (rw (sym same) c);
          state = refl;
          place = rw (lt-ltb at t.job.length (omega (arith, l, size))) refl;
        })

    -- a run of data begins
    data_begins : Turn page t (retry state.mdx_expression_inside (One (Enter kind.expression_data)))
    unfolding moved within among when◌then◌else◌
    data_begins = goes_on_lem _ refl refl refl refl refl passed

    -- *(expression_text | expression), and the `}` that closes
    pub before_turns : Bytes page → Counts t → is_return t.regs.back ≡ true
        → Turn page t (expression.before b depth t.job.asks t.regs.last (token_of t) t.regs.back)
    before_turns bytes c h =
        if_is Move (Turn page t) (eqb b end_of_page) _ _
        (λ e. if_is Move (Turn page t) (eqb t.regs.last 0) _ _ (λ l. cut_off bytes e) (λ l. clash (eqb t.regs.last 0) (rw c.none refl) l))
        (λ e.
        if_is Move (Turn page t) (eqb b line_feed) _ _ (λ f. line_ends e f)
        (λ f.
        if_is Move (Turn page t) (expression.closes b depth) _ _
        (λ k. if_is Move (Turn page t) t.job.asks _ _ (λ a. clash t.job.asks a c.silent) (λ a. closed h k))
        (λ k. data_begins)))

    -- a run of data ends
    data_ends : Turn page t (retry state.mdx_expression_before (One (Exit kind.expression_data)))
    unfolding moved within among when◌then◌else◌
    data_ends = goes_on_lem _ refl refl refl refl refl passed

    -- no limit is met: no more braces are open than bytes are passed
    one_more_lem : at < length page → length page ≤ page_limit → one_more depth page_limit ≡ depth + 1
    unfolding when◌then◌else◌
    one_more_lem l s = rw (lt-ltb depth page_limit (omega (arith, passed_depth page (brace_of t) at depth passed))) refl

    -- a brace more
    deeper : length page ≤ page_limit → eqb b left_brace ≡ true → Turn page t (eat_with state.mdx_expression_inside Nothing Deeper)
    unfolding moved within among
    deeper s e =
        let there = byte_there b left_brace e refl in
        let other = keyed b left_brace right_brace (eqb-true b left_brace e) refl in
        goes_on_lem _ refl refl refl refl refl
        (rw (one_more_lem (place_in_lem page at there) s)
        (passes (depth + 1) there (and_no (eqb b right_brace) _ other) (omega (arith, one_yes (eqb b left_brace) e, one_no (eqb b right_brace) other))))

    -- a brace less, where it does not close
    shallower : expression.closes b depth ≡ false → eqb b left_brace ≡ false → eqb b right_brace ≡ true → Turn page t (eat_with state.mdx_expression_inside Nothing Shallower)
    unfolding moved within among
    shallower c l r =
        goes_on_lem _ refl refl refl refl refl
        (passes (depth - 1) (byte_there b right_brace r refl) c (omega (arith, one_no (eqb b left_brace) l, one_yes (eqb b right_brace) r, eqb-false depth 0 (rw r at c))))

    -- any other byte
    other_data : eqb b end_of_page ≡ false → eqb b left_brace ≡ false → eqb b right_brace ≡ false → Turn page t (eat state.mdx_expression_inside Nothing)
    unfolding moved within among
    other_data e l r = goes_on_lem _ refl refl refl refl refl (passes_other e l r)

    pub inside_turns : length page ≤ page_limit → Counts t → Turn page t (expression.inside b depth t.job.asks)
    inside_turns s c =
        if_is Move (Turn page t) (expression.stops b depth) _ _ (λ k. data_ends)
        (λ k.
        let e = or_left (eqb b end_of_page) _ k in
        let n = or_right (eqb b line_feed) _ (or_right (eqb b end_of_page) _ k) in
        if_is Move (Turn page t) (eqb b left_brace) _ _
        (λ l. if_is Move (Turn page t) t.job.asks _ _ (λ a. clash t.job.asks a c.silent) (λ a. deeper s l))
        (λ l. if_is Move (Turn page t) (eqb b right_brace) _ _ (λ r. shallower n l r) (λ r. other_data e l r)))

    -- after a line ending: a line prefix, or not
    pub eol_turns : Turn page t (expression.eol_after b)
    unfolding moved within among when◌then◌else◌
    eol_turns =
        if_is Move (Turn page t) (is_space_or_tab b) _ _ (λ e. goes_on_lem _ refl refl refl refl refl passed) (λ e. goes_on_lem _ refl refl refl refl refl passed)

    prefix_goes_on : eqb b space ≡ true → Turn page t (eat_with state.mdx_expression_prefix Nothing PrefixGoesOn)
    unfolding moved within among
    prefix_goes_on e =
        let k = eqb-true b space e in
        goes_on_lem _ refl refl refl refl refl (passes_other (byte_there b space e refl) (keyed b space left_brace k refl) (keyed b space right_brace k refl))

    prefix_in_tab_lem : Turn page t (retry_with state.mdx_expression_prefix Nothing (PrefixInTab (expression.taken t.regs.prefix)))
    unfolding moved within among when◌then◌else◌
    prefix_in_tab_lem = goes_on_lem _ refl refl refl refl refl passed

    prefix_ends : Turn page t (retry_with state.mdx_expression_before (One (Exit kind.line_prefix)) PrefixEnds)
    unfolding moved within among when◌then◌else◌
    prefix_ends = goes_on_lem _ refl refl refl refl refl passed

    pub prefix_turns : Turn page t (expression.prefix b t.regs.prefix)
    prefix_turns =
        if_is Move (Turn page t) (expression.prefix_goes_on b t.regs.prefix) _ _ (λ e. prefix_goes_on (both (ltb t.regs.prefix expression.prefix_size) (eqb b space) e).1)
        (λ e. if_is Move (Turn page t) (expression.prefix_in_tab b t.regs.prefix) _ _ (λ f. prefix_in_tab_lem) (λ f. prefix_ends))

  -- ---- `{`

  abbrev pub opening : Move
  opening = eat_with state.mdx_expression_before (Three (Enter (token_of t)) (Enter kind.expression_marker) (Leave kind.expression_marker)) Open

  pub opens : length page ≡ t.job.length → inside t.state ≡ false → eqb b left_brace ≡ true → Begun page t (moved t opening)
  unfolding moved within when◌then◌else◌
  opens size was e =
      let l = place_in_lem page at (byte_there b left_brace e refl) in
      let next = lt-ltb at t.job.length (omega (arith, l, size)) in
      let back : at + 1 - 1 ≡ at = omega arith in
      record {
        held = record {
          outside = λ x. clash true refl x;
          passed = λ x. rw (next, back, held.outside was) (passed_first page at);
          goes_on = refl;
        };
        was = was;
        now = refl;
        byte = sym (byte_in page at l) ∙ eqb-true b left_brace e;
        brace = rw (next, back) refl;
        token = refl;
        back = refl;
      }

  pub start_turns : length page ≡ t.job.length → inside t.state ≡ false → Turn page t (expression.start b (token_of t))
  unfolding within among
  start_turns size was =
      if_is Move (Turn page t) (eqb b left_brace) _ _ (λ e. begins refl (opens size was e)) (λ e. left_alone page t held was (retry state.nok Nothing) (aside refl refl refl refl))
