-- A refused call changes nothing: of every worker, made up or not.
use Prim.Native.Nat.{ℕ, ◌<◌}
use native.Mathlib.Omega.{arith}
use mathlib.Core.Path.{◌≡◌, refl}
use mathlib.Core.Bool.{Bool, true, false, not, ◌||◌}
use mathlib.Core.List.{List, [], ◌∷◌}
use lib.Dec.{leb, eqb}
use borrow.Author.Tests.{leb-false}
use Rattle.base.proofs.Tables.{◌&◌, found_or}
use Rattle.base.specs.If.{among}
use Rattle.base.proofs.Choice.{if_is, both, not_yes, or_left, or_right}
use Rattle.base.specs.Range.{within}
use Rattle.base.proofs.Ranges.{within_is, all_hold}
use Rattle.tokenizer.specs.Ranges.{esm, is_answer, runs_in, listed, in_range}
use Rattle.scan.specs.declared.Scan.{Scan}
use Rattle.scan.specs.Answer.{Said, refused, end_answers, page_answers, verdict_answers, verdict_refusal, refusal, answer_of}
use Rattle.scan.specs.Call.{scan_in_range}
use Rattle.scan_theorems.proofs.Tests.{clash}
use Rattle.scan_theorems.proofs.Parts.{parts}
use Rattle.mdx_collect.specs.Collect.{Collected, collect_of}
use Rattle.worker.specs.declared.Worker.{Worker}
use Rattle.worker.specs.Reply.{Left}
use Rattle.worker.specs.Worker.{served_at, body_call}
use Rattle.worker.proofs.Laws.{held_scan}
use Rattle.worker_theorems.specs.Calls.{admit, verdict, a_turn, collect, read_body}
use Rattle.worker_theorems.specs.Demand3.{is_refused}
use Rattle.worker_theorems.specs.Ranges.{refuses, RefusedChangesNothing}
use Rattle.worker_theorems.proofs.Views.{view_admit, view_verdict, view_collect, view_turn}

-- ---- the answer of a scan in range is no refusal

-- the numbers that the three tables of answers list
abbrev tabled : ℕ → Bool
tabled n = among (0 ∷ 1 ∷ 31 ∷ []) n || (among (5 ∷ 6 ∷ 7 ∷ 10 ∷ []) n || among (8 ∷ 9 ∷ []) n)

-- a scan in range rests at no other
runs_far : (construct n : ℕ) → n < 32 → runs_in construct n ≡ true → ⊥
unfolding runs_in
runs_far construct n l =
    if_is Bool (λ (x : Bool). x ≡ true → ⊥) (eqb construct esm) _ _ (λ e h. omega (arith, within_is 68 76 n h)) (λ e h. omega (arith, within_is 32 67 n h))

none_left : (construct n : ℕ) → n < 32 → listed construct n ≡ true → tabled n ≡ false → ⊥
unfolding listed is_answer among within
none_left construct n l h t =
    let q = all_hold (λ (x : ℕ). tabled x || not (is_answer x || eqb x 31)) 32 0 n refl (omega arith) (omega arith) in
    let f : (is_answer n || eqb n 31) ≡ false = not_yes _ (rw t at q) in
    runs_far construct n l (rw (or_left (is_answer n) (eqb n 31) f, or_right (is_answer n) (eqb n 31) f) at h)

answer_stands : (s : Scan) → scan_in_range s ≡ true → refuses (answer_of s) ≡ false
unfolding scan_in_range answer_of refusal verdict_refusal among
answer_stands s r =
    let n = s.tokenizer.state in
    let h = (parts s.tokenizer (both (in_range s.tokenizer) _ r).0).state in
    if_is Said (λ (a : Said). refuses a ≡ false) (leb 32 n) _ _ (λ e. refl)
    (λ e.
    found_or (λ (a : Said). refuses a ≡ false) n (end_answers s) _ ((λ k. refl) & (λ k. refl) & (λ k. refl) & tt)
    (λ f.
    found_or (λ (a : Said). refuses a ≡ false) n (page_answers s) _ ((λ k. refl) & (λ k. refl) & (λ k. refl) & (λ k. refl) & tt)
    (λ g.
    found_or (λ (a : Said). refuses a ≡ false) n (verdict_answers s) refused ((λ k. refl) & (λ k. refl) & tt)
    (λ i. absurd (none_left s.tokenizer.job.construct n (leb-false 32 n e) h (none _ _ _ f g i))))))
  where
    none : (a b c : Bool) → a ≡ false → b ≡ false → c ≡ false → (a || (b || c)) ≡ false
    none a b c f g i = rw (f, g, i)

-- so that collecting gives no 12
pub answer_given : (s : Scan) → scan_in_range s ≡ true → is_refused (answer_of s) ≡ false
unfolding among
answer_given s r = or_left (eqb (answer_of s).number 12) _ (answer_stands s r)

-- ---- the calls

-- what is to be shown of a call on w that is lent the memory
abbrev Same : Worker → List ℕ → Left → Type 0
Same w memory l = refuses l.answer ≡ true → (l.worker ≡ w) × (l.memory ≡ memory)

-- a body that is not handed over leaves the scratch
kept : (page : List ℕ) (s : Scan) (scratch : List ℕ) → refuses (collect_of page s scratch).answer ≡ true → (collect_of page s scratch).scratch ≡ scratch
unfolding collect_of among
kept page s scratch =
    if_is Collected (λ (c : Collected). refuses c.answer ≡ true → c.scratch ≡ scratch) _ _ _
    (λ e.
    if_is Collected (λ (c : Collected). refuses c.answer ≡ true → c.scratch ≡ scratch) _ _ _ (λ f x. refl)
    (λ f. if_is Collected (λ (c : Collected). refuses c.answer ≡ true → c.scratch ≡ scratch) _ _ _ (λ g x. clash false x refl) (λ g x. refl)))
    (λ e x. refl)

pub a_refused_call_changes_nothing : RefusedChangesNothing
unfolding served_at body_call among
a_refused_call_changes_nothing (admit bytes p) w = view_admit (Same w []) w bytes p (λ a e f. (refl, refl)) (λ k s hk t e f. clash false f refl)
a_refused_call_changes_nothing (verdict i v) w = view_verdict (Same w []) w i v (λ f. (refl, refl)) (λ h g f. clash false f refl)
a_refused_call_changes_nothing (a_turn bytes lent) w = view_turn (Same w lent) w bytes lent (λ f. (refl, refl)) (λ f. (refl, refl)) (λ k hk e o run re f. clash false f refl)
a_refused_call_changes_nothing (collect i) w = view_collect (Same w []) w i (λ f. (refl, refl)) (λ h e f. clash _ f (answer_stands _ (held_scan i w h)))
a_refused_call_changes_nothing (read_body bytes i scratch) w = if_is Left (Same w scratch) _ _ _ (λ e f. (refl, kept _ _ scratch f)) (λ e f. (refl, refl))
