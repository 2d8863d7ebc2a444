-- The limit of the depth is never met: a scan that began on its page has no more braces open than it has passed bytes, so that one brace
-- more is counted (docs/DECISIONS.md, 21).
use Prim.Native.Nat.{ℕ, ◌+◌, ◌≤◌}
use native.Mathlib.Omega.{arith}
use mathlib.Core.Path.{◌≡◌, refl, ap, ◌∙◌}
use mathlib.Core.Bool.{Bool, true, false, ◌&&◌}
use mathlib.Core.List.{List}
use lib.Dec.{leb, ltb, eqb}
use lib.ListN.{length}
use borrow.Author.Tests.{lt-ltb, leb-true}
use Rattle.base.proofs.Tables.{◌&◌, Each}
use Rattle.base.specs.If.{when◌then◌else◌}
use Rattle.base.proofs.Choice.{if_is, both}
use Rattle.base.specs.Byte.{left_brace}
use Rattle.base.specs.Page.{byte_at, page_limit}
use Rattle.base.specs.State as state
use Rattle.base.specs.Decide.{eat_with, retry}
use Rattle.base.specs.declared.Marks.TheVariants.{Nothing}
use Rattle.base.specs.declared.Effect.{Effect}
use Rattle.base.specs.declared.Effect.TheVariants.{Keep, Deeper, Shallower, Open, PrefixBegins, PrefixGoesOn, PrefixEnds, PrefixInTab, Quote, Return, Save, Restore, Last, Fault, Refuse}
use Rattle.base.specs.declared.Move.{Move}
use Rattle.base.specs.declared.Verdict.{Verdict}
use Rattle.base.specs.declared.Verdict.TheVariants.{Fine, Unfinished, Wrong}
use Rattle.mdx_expression.specs.Expression as expression
use Rattle.tokenizer.specs.Decision.{expression_states, tag_states, attribute_states, decision}
use Rattle.tokenizer.specs.Moved.{one_more, next_place, place_after, changed, moved}
use Rattle.tokenizer.specs.Ranges.{esm, job_in_range}
use Rattle.tokenizer.specs.declared.Job.{Job}
use Rattle.tokenizer.specs.declared.Regs.{Regs}
use Rattle.tokenizer.specs.declared.Tokenizer.{Tokenizer}
use Rattle.scan.specs.declared.Scan.{Scan}
use Rattle.scan.specs.Scan.{choice, step_scan}
use Rattle.scan.specs.Call.{given_scan, fresh_in, fresh_scan}
use Rattle.scan.specs.Alone.{run_alone}
use Rattle.scan_theorems.proofs.Tests.{clash}
use Rattle.scan_theorems.proofs.There.{byte_there}
use Rattle.body_places.proofs.Place.{place_in_lem}
use Rattle.scan_theorems.proofs.EveryState.{of_tags, of_every_tag_state}
use Rattle.scan_theorems.proofs.Parts.{parts, low}
use Rattle.scan.proofs.Kept.{step_job}
use Rattle.scan_theorems.specs.Statement.{Heard, DepthCounted}
use Rattle.scan_theorems.proofs.Scans.{Within, within_step, within_given, within_fresh, alone_keeps, told_keeps}

-- ---- decisions that open no brace

-- no brace is opened, and no place is taken up again
abbrev flat : Effect → Bool
flat Keep = true
flat Deeper = false
flat Shallower = true
flat Open = true
flat PrefixBegins = true
flat PrefixGoesOn = true
flat PrefixEnds = true
flat (PrefixInTab passed) = true
flat (Quote b) = true
flat (Return name) = true
flat Save = true
flat Restore = false
flat (Last n) = true
flat (Fault n place) = true
flat (Refuse site note) = true

next_behind : (at n : ℕ) (eat : Bool) → at ≤ next_place at eat n
next_behind at n eat = if_is ℕ (λ (k : ℕ). at ≤ k) (eat && ltb at n) (at + 1) at (λ e. omega arith) (λ e. omega arith)

module _ (at n : ℕ) (eat : Bool) (g : Regs) where
  abbrev next : ℕ
  next = next_place at eat n

  -- no deeper, and not back
  level : (e : Effect) → flat e ≡ true → ((changed e at next g).depth ≤ g.depth) × (at ≤ place_after e next g.saved)
  level Keep h = (omega arith, next_behind at n eat)
  level Deeper h = clash false h refl
  level Shallower h = (omega arith, next_behind at n eat)
  level Open h = (omega arith, next_behind at n eat)
  level PrefixBegins h = (omega arith, next_behind at n eat)
  level PrefixGoesOn h = (omega arith, next_behind at n eat)
  level PrefixEnds h = (omega arith, next_behind at n eat)
  level (PrefixInTab passed) h = (omega arith, next_behind at n eat)
  level (Quote b) h = (omega arith, next_behind at n eat)
  level (Return name) h = (omega arith, next_behind at n eat)
  level Save h = (omega arith, next_behind at n eat)
  level Restore h = clash false h refl
  level (Last k) h = (omega arith, next_behind at n eat)
  level (Fault k place) h = (omega arith, next_behind at n eat)
  level (Refuse site note) h = (omega arith, next_behind at n eat)

data Flat (m : Move) : Type 0 where
  plain : flat m.effect ≡ true → Flat m

either : (t : Bool) (x y : Move) → Flat x → Flat y → Flat (when t then x else y)
either t x y p q = if_is Move Flat t x y (λ h. p) (λ h. q)

ruleset flats = (either, plain, refl)

verdict_flat : (v : Verdict) (place token back : ℕ) → Flat (expression.verdict v place token back)
verdict_flat Fine place token back = plain refl
verdict_flat (Unfinished n) place token back = plain refl
verdict_flat (Wrong n offset) place token back = plain refl

-- ---- in an expression or a tag

module _ (page : List ℕ) (t : Tokenizer) (size : length page ≡ t.job.length) (d : t.regs.depth ≤ t.at) where
  abbrev b : ℕ
  b = byte_at page t.at

  -- no more braces are open than bytes are passed
  abbrev Paid : Move → Type 0
  Paid m = (moved t m).regs.depth ≤ (moved t m).at

  flat_paid : (m : Move) → Flat m → Paid m
  unfolding moved
  flat_paid m (plain h) = let l = level t.at t.job.length m.eat t.regs m.effect h in omega (arith, d, l.0, l.1)

  more_small : (n limit : ℕ) → one_more n limit ≤ n + 1
  more_small n limit = if_is ℕ (λ (k : ℕ). k ≤ n + 1) (ltb n limit) (n + 1) n (λ e. omega arith) (λ e. omega arith)

  -- the byte that opens a brace is passed
  deeper_paid : eqb b left_brace ≡ true → Paid (eat_with state.mdx_expression_inside Nothing Deeper)
  unfolding moved when◌then◌else◌
  deeper_paid e =
      let h = place_in_lem page t.at (byte_there b left_brace e refl) in
      rw (lt-ltb t.at t.job.length (omega (arith, h, size))) (omega (arith, d, more_small t.regs.depth page_limit))

  inside_paid : (depth : ℕ) (asks : Bool) → Paid (expression.inside b depth asks)
  inside_paid depth asks =
      if_is Move Paid _ _ _ (λ e. flat_paid _ (plain refl))
      (λ e.
      if_is Move Paid _ _ _ (λ f. if_is Move Paid _ _ _ (λ k. flat_paid _ (plain refl)) (λ k. deeper_paid f))
      (λ f. if_is Move Paid _ _ _ (λ k. flat_paid _ (plain refl)) (λ k. flat_paid _ (plain refl))))

  attribute_paid : Each Paid t.state (attribute_states t b)
  attribute_paid =
      ((λ k. flat_paid _ (search flats depth 12))
      & (λ k. flat_paid _ (search flats depth 12))
      & (λ k. flat_paid _ (search flats depth 12))
      & (λ k. flat_paid _ (search flats depth 12))
      & (λ k. flat_paid _ (search flats depth 12))
      & (λ k. flat_paid _ (search flats depth 12))
      & (λ k. flat_paid _ (search flats depth 12))
      & (λ k. flat_paid _ (search flats depth 12))
      & (λ k. flat_paid _ (search flats depth 12))
      & (λ k. flat_paid _ (search flats depth 12))
      & (λ k. flat_paid _ (search flats depth 12))
      & tt)

  tag_paid : Each Paid t.state (tag_states t b)
  tag_paid =
      ((λ k. flat_paid _ (search flats depth 12))
      & (λ k. flat_paid _ (search flats depth 12))
      & (λ k. flat_paid _ (search flats depth 12))
      & (λ k. flat_paid _ (search flats depth 12))
      & (λ k. flat_paid _ (search flats depth 12))
      & (λ k. flat_paid _ (search flats depth 12))
      & (λ k. flat_paid _ (search flats depth 12))
      & (λ k. flat_paid _ (search flats depth 12))
      & (λ k. flat_paid _ (search flats depth 12))
      & (λ k. flat_paid _ (search flats depth 12))
      & (λ k. flat_paid _ (search flats depth 12))
      & (λ k. flat_paid _ (search flats depth 12))
      & (λ k. flat_paid _ (search flats depth 12))
      & (λ k. flat_paid _ (search flats depth 12))
      & (λ k. flat_paid _ (search flats depth 12))
      & (λ k. flat_paid _ (search flats depth 12))
      & (λ k. flat_paid _ (search flats depth 12))
      & (λ k. flat_paid _ (search flats depth 12))
      & (λ k. flat_paid _ (search flats depth 12))
      & tt)

  expression_paid : Each Paid t.state (expression_states page t b)
  expression_paid =
      ((λ k. flat_paid _ (search flats depth 12))
      & (λ k. flat_paid _ (search flats depth 12))
      & (λ k. inside_paid t.regs.depth t.job.asks)
      & (λ k. flat_paid _ (search flats depth 12))
      & (λ k. flat_paid _ (search flats depth 12))
      & (λ k. flat_paid _ (verdict_flat t.heard _ _ _))
      & tt)

  low_paid : of_tags t.state ≡ true → Paid (decision page t b)
  low_paid l = of_every_tag_state Paid page t b l (flat_paid _ (plain refl)) expression_paid tag_paid attribute_paid

-- ---- a run

module _ (page : List ℕ) (s : Scan) (w : Within page s) (c : eqb s.tokenizer.job.construct esm ≡ false) (d : s.tokenizer.regs.depth ≤ s.tokenizer.at) where
  depth_step : state.rests s.tokenizer.state ≡ false → (step_scan page s).tokenizer.regs.depth ≤ (step_scan page s).tokenizer.at
  unfolding step_scan choice
  depth_step r =
      let t = s.tokenizer in
      let size = w.sound.size in
      let p = parts t w.sound.range in
      if_is Move (Paid page t size d) _ _ _
      (λ e. flat_paid page t size d (retry state.full Nothing) (plain refl))
      (λ e. low_paid page t size d (low t.job.construct t.state c p.state r))

-- what a scan of an expression or a tag keeps
record Paying (page : List ℕ) (s : Scan) : Type 0 where
  within : Within page s
  tag : eqb s.tokenizer.job.construct esm ≡ false
  depth : s.tokenizer.regs.depth ≤ s.tokenizer.at

depth_alone : (page : List ℕ) (k : ℕ) (vs : List Verdict) (s : Scan) → Heard vs → Paying page s → Paying page (run_alone page k vs s)
unfolding given_scan
depth_alone page k =
    alone_keeps page k (Paying page)
    (λ s r p. record { within = within_step page s p.within r; tag = ap (λ (j : Job). eqb j.construct esm) (step_job page s) ∙ p.tag; depth = depth_step page s p.within p.tag p.depth r })
    (λ s v h p. told_keeps (Paying page) s v (λ e. record { within = within_given page s v p.within e h; tag = p.tag; depth = p.depth }) p)

pub no_depth_is_cut : DepthCounted
unfolding fresh_in job_in_range when◌then◌else◌
no_depth_is_cut page j k vs h l vr c =
    let d = (depth_alone page k vs (fresh_scan page j) vr (record { within = within_fresh page j h l; tag = c; depth = omega arith })).depth in
    let short = leb-true j.length page_limit (both (leb j.length page_limit) _ h).0 in
    let depth = (run_alone page k vs (fresh_scan page j)).tokenizer.regs.depth in
    (d, λ b. rw (lt-ltb depth page_limit (omega (arith, d, b, short))))
