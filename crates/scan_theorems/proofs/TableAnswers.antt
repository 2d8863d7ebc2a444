-- A scan from its start answers 0, 1, 5 to 10, Asking or Paused, and never with where-number 0.
use Prim.Native.Nat.{ℕ, ◌≤◌, ◌<◌}
use native.Mathlib.Omega.{arith}
use mathlib.Core.Path.{◌≡◌, refl}
use mathlib.Core.Bool.{Bool, true, false, not, ◌||◌}
use mathlib.Core.List.{List, [], ◌∷◌}
use lib.Dec.{leb, eqb}
use borrow.Author.Tests.{leb-false, eq-eqb}
use Rattle.base.proofs.Tables.{◌&◌, found_or}
use Rattle.base.specs.If.{when◌then◌else◌, among}
use Rattle.base.proofs.Choice.{if_is, case, or_cases}
use Rattle.base.specs.Range.{within}
use Rattle.base.proofs.Ranges.{within_is, all_hold}
use Rattle.base.specs.State as state
use Rattle.base.specs.State.{rests}
use Rattle.base.specs.declared.Move.{Move}
use Rattle.base.specs.declared.Verdict.{Verdict}
use Rattle.tokenizer.specs.declared.Job.{Job}
use Rattle.tokenizer.specs.Moved.{moved}
use Rattle.tokenizer.specs.Ranges.{tag, esm, is_answer, runs_in, listed}
use Rattle.scan.specs.declared.Scan.{Scan}
use Rattle.scan.specs.Answer.{Said, end_answers, page_answers, verdict_answers, verdict_refusal, refusal, answer_of}
use Rattle.scan.specs.Scan.{choice, lacks, step_scan}
use Rattle.scan.specs.Call.{given_scan, fresh_in, fresh_scan}
use Rattle.scan.specs.Alone.{run_alone}
use Rattle.scan_theorems.specs.Statement.{answers_of_scans, where_of, ByTheTable}
use Rattle.scan_theorems.proofs.Tests.{clash}
use Rattle.scan_theorems.proofs.Parts.{parts, low, high}
use Rattle.scan_theorems.proofs.Sites.{sited_end, Placed, placed_tag, placed_esm, placed_full}
use Rattle.scan_theorems.proofs.Scans.{Within, within_step, within_given, within_fresh, alone_keeps, told_keeps}

-- ---- the answer of a scan that is listed and placed

-- it is one of the scan's answers, and one that carries a where-number carries another than 0
abbrev Fine : Said → Type 0
Fine a = (among answers_of_scans a.number ≡ true) × (among (state.eof ∷ state.unexpected ∷ []) a.number ≡ true → 1 ≤ where_of a)

-- the numbers that the three tables of answers list are all at which a scan rests
abbrev tabled : ℕ → Bool
tabled n = among (0 ∷ 1 ∷ 31 ∷ []) n || (among (5 ∷ 6 ∷ 7 ∷ 10 ∷ []) n || among (8 ∷ 9 ∷ []) n)

rests_tabled : (construct n : ℕ) → n < 32 → listed construct n ≡ true → tabled n ≡ true
unfolding listed is_answer runs_in among within
rests_tabled construct n l h =
    let q = all_hold (λ (x : ℕ). not (is_answer x || eqb x 31) || tabled x) 32 0 n refl (omega arith) (omega arith) in
    or_cases _ (is_answer n) _ h (λ e. second (is_answer n || eqb n 31) (tabled n) q (first (is_answer n) (eqb n 31) e))
    (λ d. or_cases _ (eqb n 31) _ d (λ e. second (is_answer n || eqb n 31) (tabled n) q (right (is_answer n) (eqb n 31) e))
    (λ e. absurd (running construct n l e)))
  where
    first : (a b : Bool) → a ≡ true → (a || b) ≡ true
    first a b e = rw e

    right : (a b : Bool) → b ≡ true → (a || b) ≡ true
    right true b e = refl
    right false b e = e

    second : (a b : Bool) → (not a || b) ≡ true → a ≡ true → b ≡ true
    second a b q e = rw e at q

    running : (c k : ℕ) → k < 32 → (when eqb c esm then within 68 76 k else within 32 67 k) ≡ true → ⊥
    running c k l = if_is Bool (λ (x : Bool). x ≡ true → ⊥) (eqb c esm) _ _ (λ e h. omega (arith, within_is 68 76 k h)) (λ e h. omega (arith, within_is 32 67 k h))

module _ (s : Scan) (construct : ℕ) (h : listed construct s.tokenizer.state ≡ true) (p : sited_end s.tokenizer.state ≡ true → 1 ≤ s.tokenizer.regs.site) where
  abbrev n : ℕ
  n = s.tokenizer.state

  fine : Fine (answer_of s)
  unfolding answer_of refusal verdict_refusal among
  fine =
      if_is Said Fine (leb 32 n) _ _ (λ e. (refl, λ x. clash false x refl))
      (λ e.
      let t = rests_tabled construct n (leb-false 32 n e) h in
      found_or Fine n (end_answers s) _ ((λ k. (refl, λ x. clash false x refl)) & (λ k. (refl, λ x. clash false x refl)) & (λ k. (refl, λ x. clash false x refl)) & tt)
      (λ f.
      found_or Fine n (page_answers s) _
      ((λ k. (refl, λ x. clash false x refl))
      & (λ k. (refl, λ x. p (rw k)))
      & (λ k. (refl, λ x. p (rw k)))
      & (λ k. (refl, λ x. clash false x refl))
      & tt)
      (λ g.
      found_or Fine n (verdict_answers s) _ ((λ k. (refl, λ x. clash false x refl)) & (λ k. (refl, λ x. clash false x refl)) & tt)
      (λ i. clash (tabled n) t (none _ _ _ f g i)))))
    where
      none : (a b c : Bool) → a ≡ false → b ≡ false → c ≡ false → (a || (b || c)) ≡ false
      none a b c f g i = rw (f, g, i)

-- ---- what every scan keeps

record Standing (page : List ℕ) (s : Scan) : Type 0 where
  within : Within page s
  placed : Placed page s.tokenizer

standing_step : (page : List ℕ) (s : Scan) → rests s.tokenizer.state ≡ false → Standing page s → Standing page (step_scan page s)
unfolding step_scan choice
standing_step page s r h =
    let t = s.tokenizer in
    let p = parts t h.within.sound.range in
    record {
      within = within_step page s h.within r;
      placed = if_is Move (λ (m : Move). Placed page (moved t m)) (lacks s (choice page s)) _ _ (λ e. placed_full page t)
          (λ e.
          case _ (eqb t.job.construct esm) (λ c. placed_esm page t (high t.job.construct t.state c p.state r))
          (λ c. placed_tag page t p.regs.back (low t.job.construct t.state c p.state r) h.placed));
    }

-- a state that applies a verdict, and one that begins, is neither at a tag's end nor at the scan's
placed_at : (page : List ℕ) (s : Scan) → eqb s.tokenizer.state state.mdx_jsx_tag_end ≡ false → sited_end s.tokenizer.state ≡ false → Placed page s.tokenizer
placed_at page s e f = record { tag_end = λ k. clash _ (eq-eqb s.tokenizer.state state.mdx_jsx_tag_end k) e; sited = λ k. clash _ k f }

given_placed : (page : List ℕ) (s : Scan) (v : Verdict) → Placed page (given_scan s v).tokenizer
unfolding given_scan when◌then◌else◌
given_placed page s v =
    placed_at page (given_scan s v) (case _ (eqb s.tokenizer.job.construct esm) (λ c. rw c) (λ c. rw c)) (case _ (eqb s.tokenizer.job.construct esm) (λ c. rw c) (λ c. rw c))

fresh_placed : (page : List ℕ) (j : Job) → Placed page (fresh_scan page j).tokenizer
unfolding fresh_in when◌then◌else◌
fresh_placed page j =
    placed_at page (fresh_scan page j)
    (case _ (eqb j.construct esm) (λ c. rw c) (λ c. case _ (eqb j.construct tag) (λ d. rw (c, d)) (λ d. rw (c, d))))
    (case _ (eqb j.construct esm) (λ c. rw c) (λ c. case _ (eqb j.construct tag) (λ d. rw (c, d)) (λ d. rw (c, d))))

pub a_scan_answers_by_the_table : ByTheTable
a_scan_answers_by_the_table page j k vs h l vr =
    let s = alone_keeps page k (Standing page) (standing_step page)
    (λ s v g p. told_keeps (Standing page) s v (λ e. record { within = within_given page s v p.within e g; placed = given_placed page s v }) p)
    vs (fresh_scan page j) vr (record { within = within_fresh page j h l; placed = fresh_placed page j }) in
    let r = run_alone page k vs (fresh_scan page j) in
    fine r r.tokenizer.job.construct (parts r.tokenizer s.within.sound.range).state s.placed.sited
