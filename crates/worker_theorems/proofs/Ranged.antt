-- Every worker that calls give is in range: docs/NUMBERS.md lists the ranges, and `all_in_range` is their test.
use Prim.Native.Nat.{ℕ, zero, suc, ◌≤◌, ◌<◌}
use native.Mathlib.Omega.{arith}
use native.Mathlib.Decide.{ℕ_discrete}
use mathlib.Core.Path.{◌≡◌, refl, sym, ap, ◌∙◌, subst}
use mathlib.Core.Logic.{◌≢◌, by_cases}
use mathlib.Core.Bool.{true, not, ◌||◌, true≢false}
use mathlib.Core.List.{List, [], ◌∷◌}
use lib.ListN.{length, set, length-set, get_or-replicate}
use lib.Seq.{get_or-set_same, get_or-set_other}
use lib.Dec.{ltb, leb, eqb}
use borrow.Author.Tests.{eq-eqb, le-leb, lt-ltb, ltb-true, leb-true, eqb-true}
use Rattle.base.specs.If.{when◌then◌else◌}
use Rattle.base.proofs.Choice.{if_is, case, and_yes, both, or_yes, or_yes', or_cases}
use Rattle.base.specs.declared.Verdict.{Verdict}
use Rattle.events.specs.Share.{share_of}
use Rattle.scan.specs.declared.Scan.{Scan}
use Rattle.scan.specs.Call.{scan_in_range, runnable, run_of, givable, given_scan, give_of, fresh_in}
use Rattle.scan.proofs.Begun.{begins}
use Rattle.scan_theorems.proofs.Calls.{run_gives_in_range, give_gives_in_range, new_gives_in_range}
use Rattle.scan_theorems.proofs.Scans.{job_kept}
use Rattle.worker.specs.declared.Place.{Place}
use Rattle.worker.specs.declared.Worker.{Worker}
use Rattle.worker.specs.Place.{place_of, free_place, beyond, place_in, place_in_range, stored, worker_in_range, each_in_range, all_in_range, longest_turn}
use Rattle.worker.specs.Reply.{Left}
use Rattle.worker.specs.Ring.{places}
use Rattle.worker.specs.Worker.{fresh_of, start_of, page_in, run_at, served_at, body_call}
use Rattle.worker.proofs.Laws.{held}
use Rattle.worker_theorems.specs.Calls.{Page, Ask, admit, verdict, a_turn, collect, read_body, call_of}
use Rattle.worker_theorems.specs.Ranges.{RangesClosed}
use Rattle.worker_theorems.proofs.Views.{view_admit, view_verdict, view_collect, view_turn}

-- ---- the test, by its parts

abbrev pub Fine : ℕ → Place → Type 0
Fine n p = p.taken ≡ true → place_in_range n p ≡ true

-- over a buffer of so many words, with turns of q steps
pub record Ranged (len q : ℕ) (w : Worker) : Type 0 where
  pub size : length w.places ≡ places
  pub ring : w.last < places
  pub turns : w.q ≡ q
  pub some : 1 ≤ q
  pub few : q ≤ longest_turn
  pub lent : w.words ≡ len
  pub each : (k : ℕ) → k < places → Fine (share_of len) (place_in w.places k)

pub ranged_own : (len q : ℕ) (w : Worker) → Ranged len q w → worker_in_range w ≡ true
unfolding worker_in_range
ranged_own len q w r =
    and_yes _ _ (lt-ltb w.last places r.ring) (and_yes _ _ (le-leb 1 w.q (omega (arith, r.turns, r.some))) (le-leb w.q longest_turn (omega (arith, r.turns, r.few))))

each_of : (n : ℕ) (ps : List Place) → each_in_range n ps ≡ true → (k : ℕ) → Fine n (place_in ps k)
unfolding each_in_range
each_of n [] e k t = absurd (true≢false (sym t))
each_of n (p ∷ ps) e zero t = or_cases _ (not p.taken) _ (both (not p.taken || place_in_range n p) _ e).0 (λ f. absurd (true≢false (sym f ∙ ap not t))) (λ f. f)
each_of n (p ∷ ps) e (suc k) t = each_of n ps (both (not p.taken || place_in_range n p) _ e).1 k t

of_each : (n : ℕ) (ps : List Place) → ((k : ℕ) → k < length ps → Fine n (place_in ps k)) → each_in_range n ps ≡ true
unfolding each_in_range
of_each n [] f = refl
of_each n (p ∷ ps) f =
    and_yes _ _ (case _ p.taken (λ t. or_yes' (not p.taken) _ (f 0 (omega arith) t)) (λ t. or_yes _ _ (ap not t)))
    (of_each n ps (λ k h. f (suc k) (omega arith)))

pub ranged_of : (w : Worker) → all_in_range w ≡ true → Ranged w.words w.q w
unfolding all_in_range worker_in_range
ranged_of w e =
    let a = both (worker_in_range w) _ e in
    let b = both (ltb w.last places) _ a.0 in
    let c = both (leb 1 w.q) _ b.1 in
    let d = both (eqb (length w.places) places) _ a.1 in
    record {
      size = eqb-true (length w.places) places d.0;
      ring = ltb-true w.last places b.0;
      turns = refl;
      some = leb-true 1 w.q c.0;
      few = leb-true w.q longest_turn c.1;
      lent = refl;
      each = λ k h. each_of (share_of w.words) w.places d.1 k;
    }

pub of_ranged : (len q : ℕ) (w : Worker) → Ranged len q w → all_in_range w ≡ true
unfolding all_in_range
of_ranged len q w r =
    and_yes _ _ (ranged_own len q w r)
    (and_yes _ _ (eq-eqb (length w.places) places r.size)
    (of_each (share_of w.words) w.places (λ k h. subst (λ (n : ℕ). Fine (share_of n) (place_in w.places k)) (sym r.lent) (r.each k (omega (arith, r.size))))))

-- ---- one place replaced

pub range_parts : (n : ℕ) (p : Place) → place_in_range n p ≡ true → (p.scan.tokenizer.job.words ≡ n) × (scan_in_range p.scan ≡ true)
unfolding place_in_range
range_parts n p e = let a = both (eqb p.scan.tokenizer.job.words n) _ e in (eqb-true p.scan.tokenizer.job.words n a.0, a.1)

range_by : (n : ℕ) (p : Place) → p.scan.tokenizer.job.words ≡ n → scan_in_range p.scan ≡ true → place_in_range n p ≡ true
unfolding place_in_range
range_by n p e f = and_yes _ _ (eq-eqb p.scan.tokenizer.job.words n e) f

module _ (len q : ℕ) (w : Worker) (r : Ranged len q w) where
  put_ranged : (i : ℕ) (p : Place) (l : ℕ) → i < places → l < places → Fine (share_of len) p → Ranged len q (stored w i p l)
  put_ranged i p l hi hl f =
      record {
        size = length-set w.places i p ∙ r.size;
        ring = hl;
        turns = r.turns;
        some = r.some;
        few = r.few;
        lent = r.lent;
        each = λ k hk.
            by_cases (ℕ_discrete k i)
            (λ (e : k ≡ i).
            subst (λ (j : ℕ). Fine (share_of len) (place_in (set w.places i p) j)) (sym e) (subst (Fine (share_of len)) (sym (get_or-set_same w.places i p beyond (omega (arith, r.size)))) f))
            (λ (ne : k ≢ i). subst (Fine (share_of len)) (sym (get_or-set_other w.places i k p beyond ne)) (r.each k hk));
      }

  -- ---- the calls

  after_admit : (bytes : List ℕ) (p : Page) → Ranged len q (call_of (admit bytes p) w).worker
  unfolding fresh_in
  after_admit bytes p =
      view_admit (λ (l : Left). Ranged len q l.worker) w bytes p (λ a e. r)
      (λ k s hk t e.
      let f = (begins bytes p.at p.long p.start p.construct p.kind p.flags (share_of w.words) s e).fresh in
      put_ranged k (place_of true p.at s) w.last hk r.ring
      (λ u. range_by (share_of len) (place_of true p.at s) (ap (λ (x : Scan). x.tokenizer.job.words) f ∙ ap share_of r.lent)
      (new_gives_in_range bytes p.at p.long p.start p.construct p.kind p.flags (share_of w.words) s e)))

  -- a scan that heard a verdict is in range, over the same share
  given_in_range : (n : ℕ) (p : Place) (v : Verdict) → givable p.scan v ≡ true → place_in_range n p ≡ true → place_in_range n (place_of true p.at (given_scan p.scan v)) ≡ true
  unfolding give_of given_scan when◌then◌else◌
  given_in_range n p v g e =
      let a = range_parts n p e in
      range_by n (place_of true p.at (given_scan p.scan v)) a.0 (rw g at (give_gives_in_range p.scan v a.1))

  after_verdict : (i : ℕ) (v : Verdict) → Ranged len q (call_of (verdict i v) w).worker
  after_verdict i v =
      view_verdict (λ (l : Left). Ranged len q l.worker) w i v r
      (λ h g.
      let p = place_in w.places i in
      let d = held i w h in
      put_ranged i (place_of true p.at (given_scan p.scan v)) w.last d.small r.ring
      (λ u. subst (λ (n : ℕ). place_in_range (share_of n) (place_of true p.at (given_scan p.scan v)) ≡ true) r.lent (given_in_range (share_of w.words) p v g d.given)))

  after_collect : (i : ℕ) → Ranged len q (call_of (collect i) w).worker
  after_collect i =
      view_collect (λ (l : Left). Ranged len q l.worker) w i r
      (λ h e. put_ranged i free_place w.last (held i w h).small r.ring (λ t. absurd (true≢false (sym t))))

  -- a run keeps the job, also where it is refused
  run_job : (page : List ℕ) (k : ℕ) (s : Scan) (words : List ℕ) → (run_of page k s words).scan.tokenizer.job ≡ s.tokenizer.job
  unfolding run_of when◌then◌else◌
  run_job page k s words = case _ (runnable s (length page) (length words) k) (λ e. rw e (job_kept page k s)) (λ e. rw e)

  after_turn : (bytes lent : List ℕ) → Ranged len q (call_of (a_turn bytes lent) w).worker
  unfolding served_at
  after_turn bytes lent =
      view_turn (λ (l : Left). Ranged len q l.worker) w bytes lent r r
      (λ k hk e o run re.
      let p = place_in w.places k in
      let a = range_parts (share_of len) p (r.each k hk (both p.taken _ run).0) in
      let s = (run_at k bytes w lent).scan in
      put_ranged k (place_of true p.at s) k hk hk
      (λ u. range_by (share_of len) (place_of true p.at s) (ap (λ (j : _). j.words) (run_job (page_in p bytes) w.q p.scan _) ∙ a.0) (run_gives_in_range (page_in p bytes) w.q p.scan _ a.1)))

  after_body : (bytes : List ℕ) (i : ℕ) (scratch : List ℕ) → Ranged len q (call_of (read_body bytes i scratch) w).worker
  unfolding body_call
  after_body bytes i scratch = if_is Left (λ (l : Left). Ranged len q l.worker) _ _ _ (λ e. r) (λ e. r)

  pub after_call : (x : Ask) → Ranged len q (call_of x w).worker
  after_call (admit bytes p) = after_admit bytes p
  after_call (verdict i v) = after_verdict i v
  after_call (a_turn bytes lent) = after_turn bytes lent
  after_call (collect i) = after_collect i
  after_call (read_body bytes i scratch) = after_body bytes i scratch

-- ---- a worker started

pub fresh_ranged : (q words : ℕ) → worker_in_range (fresh_of q words) ≡ true → Ranged words q (fresh_of q words)
unfolding worker_in_range
fresh_ranged q words e =
    let a = both (leb 1 q) _ (both (ltb 15 16) _ e).1 in
    record {
      size = refl;
      ring = omega arith;
      turns = refl;
      some = leb-true 1 q a.0;
      few = leb-true q longest_turn a.1;
      lent = refl;
      each = λ k hk t. absurd (true≢false (sym t ∙ ap (λ (p : Place). p.taken) (get_or-replicate 16 k free_place beyond hk)));
    }

-- a start that is not refused gives the fresh worker
pub started_is : (q words : ℕ) → (start_of q words).answer.number ≡ 34 → ((start_of q words).worker ≡ fresh_of q words) × (worker_in_range (fresh_of q words) ≡ true)
unfolding start_of when◌then◌else◌
started_is q words = case _ (worker_in_range (fresh_of q words)) (λ e. rw e (λ f. (refl, refl))) (λ e. rw e (λ f. absurd (omega (arith, f))))

pub started_ranged : (q words : ℕ) → (start_of q words).answer.number ≡ 34 → Ranged words q (start_of q words).worker
started_ranged q words e = let a = started_is q words e in subst (Ranged words q) (sym a.0) (fresh_ranged q words a.1)

pub ranges_are_closed : RangesClosed
ranges_are_closed =
    record {
      start = λ q words e. of_ranged words q _ (started_ranged q words e);
      call = λ x w e. of_ranged w.words w.q _ (after_call w.words w.q w (ranged_of w e) x);
    }
