-- Demand 3, proved: a page that was admitted stands where Fair.antt says, and so the promise holds of it.
use Prim.Native.Nat.{ℕ, ◌<◌}
use native.Mathlib.Omega.{arith}
use native.Mathlib.Nat.{mul-zero, zero-add}
use native.Mathlib.Decide.{ℕ_discrete}
use mathlib.Core.Path.{◌≡◌, refl, sym, ap, ◌∙◌, subst}
use mathlib.Core.Logic.{◌⊎◌, inl, inr, by_cases}
use mathlib.Core.Bool.{Bool, true, false, ◌&&◌}
use mathlib.Core.List.{List, [], ◌∷◌}
use lib.ListN.{length, set, drop, length-drop}
use lib.Seq.{get_or-set_same, length-take-le}
use lib.Dec.{leb}
use borrow.Author.Tests.{lt-ltb, leb-false}
use Rattle.base.specs.Number as number
use Rattle.base.specs.State.{asking}
use Rattle.base.specs.declared.Verdict.{Verdict}
use Rattle.events.specs.Share.{share_of, share_in}
use Rattle.tokenizer.specs.declared.Job.{Job}
use Rattle.scan.specs.Scan.{step_bound}
use Rattle.scan.specs.Answer.{said, answer_of}
use Rattle.scan.specs.Call.{job_of, fresh_in, fresh_scan}
use Rattle.scan.proofs.Begun.{begins}
use Rattle.scan_theorems.proofs.Calls.{job_in_range_lem}
use Rattle.scan_theorems.proofs.Scans.{Within, within_fresh}
use Rattle.worker.specs.declared.Place.{Place}
use Rattle.worker.specs.Place.{place_of, beyond, place_in, running, state_of}
use Rattle.worker.specs.Reply.{Left}
use Rattle.worker.specs.Ring.{after}
use Rattle.worker.proofs.Laws.{collect_gives}
use Rattle.worker_theorems.specs.Calls.{Page, admit, collect, State, answer, next, after_calls, place_at, events_of}
use Rattle.worker_theorems.specs.Demand3.{verdicts_to, turns_while, bound, text_of, scan_alone, list_alone, Promise, begun, Demand3}
use Rattle.worker_theorems.proofs.Fair.{Good, At, Here, is_held, reads_events, stays_good, good_calls, by_calls, soon_of}
use Rattle.worker_theorems.proofs.Ranged.{started_ranged}
use Rattle.worker_theorems.proofs.Ring.{gap_small}
use Rattle.worker_theorems.proofs.Single.{reached_first, reached_rest}
use Rattle.worker_theorems.proofs.Views.{view_placed}

fresh_parts : (page : List ℕ) (j : Job) → ((fresh_scan page j).tokenizer.job ≡ j) × ((fresh_scan page j).used ≡ 0)
unfolding fresh_in
fresh_parts page j = (refl, refl)

-- ---- the admission

module _ (len q : ℕ) (bytes : List ℕ) (p : Page) (i : ℕ) (s : State) (g : Good len q s) where
  -- the place that was given is one of the sixteen
  placed_small : answer (admit bytes p) s ≡ said number.placed (i ∷ []) → i < 16
  placed_small e = view_placed (λ (d : Left). i < 16) s.worker bytes p i e (λ n hi b. hi)

  -- the page as it was admitted: whatever its share holds, none of its events are there
  begins_at : (hi : i < 16) → answer (admit bytes p) s ≡ said number.placed (i ∷ []) → Here len q (text_of bytes p) p i hi [] 0 (next (admit bytes p) s)
  begins_at hi e =
      view_placed (λ (d : Left). At len q (text_of bytes p) p i hi [] 0 d.worker.last (place_in d.worker.places i) (share_in (share_of d.worker.words) i s.words)) s.worker bytes p i e
      (λ n hk b.
      let f = begins bytes p.at p.long p.start p.construct p.kind p.flags (share_of s.worker.words) n b in
      let j : Job = job_of p.construct p.kind p.flags p.long p.start (share_of len) in
      let en : n ≡ fresh_scan (text_of bytes p) j = f.fresh ∙ ap (λ (w : ℕ). fresh_scan (text_of bytes p) (job_of p.construct p.kind p.flags p.long p.start (share_of w))) g.ranged.lent in
      let l : length (text_of bytes p) ≡ p.long = length-take-le p.long (drop p.at bytes) (omega (arith, length-drop p.at bytes, f.admitted.lies)) in
      let w : Within (text_of bytes p) (fresh_scan (text_of bytes p) j) = within_fresh (text_of bytes p) j (job_in_range_lem bytes p.at p.long p.start p.construct p.kind p.flags (share_of len) f.listed f.admitted) l in
      let z = fresh_parts (text_of bytes p) j in
      let o : place_in (set s.worker.places i (place_of true p.at n)) i ≡ place_of true p.at (fresh_scan (text_of bytes p) j) =
      get_or-set_same s.worker.places i (place_of true p.at n) beyond (omega (arith, g.ranged.size)) ∙ ap (place_of true p.at) en in
      subst (λ (y : Place). At len q (text_of bytes p) p i hi [] 0 s.worker.last y (share_in (share_of s.worker.words) i s.words)) (sym o)
      (record {
        n = 0;
        es = [];
        taken = refl;
        same = z.0;
        within = w;
        reached = reached_first (text_of bytes p) (bound p) (fresh_scan (text_of bytes p) j) w (ap step_bound z.0);
        stand = record { count = z.1; hold = rw z.1 };
        goes = λ r. (omega (arith, mul-zero q), omega (arith, gap_small (after s.worker.last) i));
        waits = λ r. (omega (arith, mul-zero q), omega arith);
      }))

-- ---- what stands at the place, in the statement's words

module _ (len q : ℕ) (bytes : List ℕ) (p : Page) (i : ℕ) (hi : i < 16) (vs : List Verdict) (m : ℕ) (s : State) (g : Good len q s) (h : Here len q (text_of bytes p) p i hi vs m s) where
  -- where it rests, it is where the scan run by itself is
  stands : state_of (place_at i s) < 32 → ((place_at i s).scan ≡ scan_alone bytes p vs (share_of len)) × (events_of i s ≡ list_alone bytes p vs (share_of len))
  stands r =
      let a = reached_rest (text_of bytes p) (bound p) _ vs (place_at i s).scan h.es (lt-ltb (state_of (place_at i s)) 32 r) h.reached in
      (a.0, reads_events len q (text_of bytes p) p i hi vs m s g h ∙ a.1)

  gives_it : state_of (place_at i s) < asking → answer (collect i) s ≡ answer_of (scan_alone bytes p vs (share_of len))
  gives_it r =
      sym (ap (λ (d : Left). d.answer) (collect_gives i s.worker (is_held len q (text_of bytes p) p i hi vs m s g h) (lt-ltb (state_of (place_at i s)) asking r)))
      ∙ ap answer_of (stands (omega arith)).0

  stops : running (place_at i s) ≡ false → (state_of (place_at i s) ≡ asking) ⊎ (state_of (place_at i s) < asking)
  stops r =
      let u : leb 32 (state_of (place_at i s)) ≡ false = sym (ap (λ (b : Bool). b && leb 32 (state_of (place_at i s))) h.taken) ∙ r in
      let l = leb-false 32 (state_of (place_at i s)) u in
      by_cases (ℕ_discrete (state_of (place_at i s)) asking) (λ e. inl e) (λ ne. inr (omega (arith, l, ne)))

  promised : Promise q (bound p) i (scan_alone bytes p vs (share_of len)) (list_alone bytes p vs (share_of len)) (length vs) m s
  promised =
      record {
        there = h.taken;
        soon = soon_of len q (text_of bytes p) p i hi g.ranged.some vs m s.worker.last (place_at i s) _ h;
        rests = stops;
        waiting = λ e. stands (omega (arith, e));
        finished = λ r. (gives_it r, (stands (omega arith)).1);
      }

-- the scope's demand 3
pub no_page_holds_up_another : Demand3
no_page_holds_up_another q events before since bytes p i starts placed fair =
    let len = length events in
    let g : Good len q (begun q events) = record { ranged = started_ranged q len starts; room = refl } in
    let s₀ = after_calls before (begun q events) in
    let g₀ = good_calls len q before (begun q events) g in
    let hi = placed_small len q bytes p i s₀ g₀ placed in
    let s₁ = next (admit bytes p) s₀ in
    let g₁ = stays_good len q (admit bytes p) s₀ g₀ in
    promised len q bytes p i hi (verdicts_to i since s₁) (turns_while i since s₁) (after_calls since s₁) (good_calls len q since s₁ g₁)
    (rw zero-add at (by_calls len q (text_of bytes p) p i hi since [] 0 s₁ g₁ fair (begins_at len q bytes p i s₀ g₀ hi placed)))
