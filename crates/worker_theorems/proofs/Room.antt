-- A page in a place with room enough never runs full, whatever else happens in the worker; and the start says the longest page that the
-- formula covers.
use Prim.Native.Nat.{ℕ, ◌+◌, ◌-◌, ◌/◌, ◌≤◌, ◌<◌}
use native.Mathlib.Omega.{arith}
use native.Mathlib.Decide.{ℕ_discrete}
use mathlib.Core.Path.{◌≡◌, refl, sym, ap, ◌∙◌, subst}
use mathlib.Core.Logic.{◌≢◌, ◌⊎◌, inl, inr, by_cases}
use mathlib.Core.Bool.{true, false, true≢false}
use mathlib.Core.List.{List, [], ◌∷◌}
use lib.ListN.{length, get_or, set}
use lib.Seq.{get_or-set_same, get_or-set_other}
use lib.Dec.{leb, ltb, eqb}
use borrow.Author.Tests.{eqb-false, leb-true, leb-false, ltb-true, ltb-false}
use Rattle.base.specs.If.{when◌then◌else◌}
use Rattle.base.proofs.Choice.{if_is, case, both}
use Rattle.base.specs.Number as number
use Rattle.base.specs.Page.{page_limit}
use Rattle.base.specs.State.{asking, rests}
use Rattle.base.specs.declared.Verdict.{Verdict}
use Rattle.events.specs.Share.{share_of, share_in}
use Rattle.events.specs.Words.{room_in}
use Rattle.room.specs.Room.{events_enough, longest_of, longest_in}
use Rattle.tokenizer.specs.Ranges.{verdict_in_range}
use Rattle.scan.specs.declared.Scan.{Scan}
use Rattle.scan.specs.Answer.{Said, said}
use Rattle.scan.specs.Scan.{step_scan}
use Rattle.scan.specs.Call.{givable, given_scan, run_of}
use Rattle.scan_theorems.specs.Room.{NotFull}
use Rattle.scan_theorems.proofs.Scans.{ran_keeps}
use Rattle.scan_theorems.proofs.Room.{Roomy, roomy_step, roomy_given, roomy_begun, not_full, words_hold}
use Rattle.worker.specs.declared.Place.{Place}
use Rattle.worker.specs.declared.Worker.{Worker}
use Rattle.worker.specs.Place.{place_of, free_place, beyond, place_in, running, worker_in_range}
use Rattle.worker.specs.Reply.{Left}
use Rattle.worker.specs.Worker.{fresh_of, start_of, page_in, lies_in, run_at, served_at, body_call}
use Rattle.worker.proofs.Laws.{held_scan}
use Rattle.worker_theorems.specs.Calls.{Page, Ask, admit, verdict, a_turn, collect, read_body, State, answer, next, after_calls, place_at}
use Rattle.worker_theorems.specs.Demand3.{lent_well, leaves, Fair, text_of, begun}
use Rattle.worker_theorems.specs.Isolation.{early, admitted, late}
use Rattle.worker_theorems.specs.Room.{same_bytes, Unchanged, StaysRemain, PlaceNeverFull, LongestNeverFull, SharesNeverFull, LongestSaid}
use Rattle.worker_theorems.proofs.Fair.{runs_unfinished, givable_parts}
use Rattle.worker_theorems.proofs.Ranged.{Ranged, after_call, started_ranged}
use Rattle.worker_theorems.proofs.Refused.{answer_given}
use Rattle.worker_theorems.proofs.Views.{view_admit, view_placed, view_verdict, view_collect, view_turn}

-- ---- what each step over the page keeps, and each verdict that is given, a place keeps

module _
    (i : ℕ) (page : List ℕ) (P : Scan → Type 0)
    (f : (s : Scan) → rests s.tokenizer.state ≡ false → P s → P (step_scan page s))
    (g : (s : Scan) (v : Verdict) → s.tokenizer.state ≡ asking → verdict_in_range v ≡ true → P s → P (given_scan s v))
  where
    abbrev Has : Place → Type 0
    Has p = (p.taken ≡ true) × P p.scan

    module _ (s : State) (there : i < length s.worker.places) (h : Has (place_at i s)) where
      abbrev w : Worker
      w = s.worker

      -- a place is replaced
      replaced : (k : ℕ) (p : Place) → (k ≡ i → Has p) → Has (place_in (set w.places k p) i)
      replaced k p own =
          by_cases (ℕ_discrete k i)
          (λ (e : k ≡ i). subst Has (sym (ap (λ (j : ℕ). place_in (set w.places j p) i) e ∙ get_or-set_same w.places i p beyond there)) (own e))
          (λ (ne : k ≢ i). subst Has (sym (get_or-set_other w.places k i p beyond (λ (x : i ≡ k). ne (sym x)))) h)

      after_admit : (bytes : List ℕ) (p : Page) → Has (place_at i (next (admit bytes p) s))
      after_admit bytes p =
          view_admit (λ (d : Left). Has (place_in d.worker.places i)) w bytes p (λ a e. h)
          (λ k n hk t e. replaced k (place_of true p.at n) (λ x. absurd (true≢false (sym h.0 ∙ ap (λ (j : ℕ). (place_at j s).taken) (sym x) ∙ t))))

      after_verdict : (k : ℕ) (v : Verdict) → Has (place_at i (next (verdict k v) s))
      after_verdict k v =
          view_verdict (λ (d : Left). Has (place_in d.worker.places i)) w k v h
          (λ hk gv. replaced k _ (λ x.
          let a = givable_parts (place_at i s).scan v (subst (λ (j : ℕ). givable (place_at j s).scan v ≡ true) x gv) in
          (refl, subst (λ (j : ℕ). P (given_scan (place_at j s).scan v)) (sym x) (g (place_at i s).scan v a.0 a.1 h.1))))

      after_collect : (k : ℕ) → leaves i (collect k) (answer (collect k) s) → Has (place_at i (next (collect k) s))
      after_collect k =
          view_collect (λ (d : Left). leaves i (collect k) d.answer → Has (place_in d.worker.places i)) w k (λ e. h)
          (λ hk n e.
          let a : eqb k i ≡ false = rw (answer_given (place_at k s).scan (held_scan k w hk)) at e in
          replaced k free_place (λ x. absurd (eqb-false k i a x)))

      after_body : (bytes : List ℕ) (k : ℕ) (scratch : List ℕ) → Has (place_at i (next (read_body bytes k scratch) s))
      unfolding body_call
      after_body bytes k scratch = if_is Left (λ (d : Left). Has (place_in d.worker.places i)) _ _ _ (λ e. h) (λ e. h)

      after_turn : (bytes lent : List ℕ) → same_bytes i page (a_turn bytes lent) s → Has (place_at i (next (a_turn bytes lent) s))
      unfolding served_at
      after_turn bytes lent same =
          view_turn (λ (d : Left). Has (place_in d.worker.places i)) w bytes lent h h
          (λ k hk el wr run rd. replaced k _ (λ x.
          let own : page_in (place_at i s) bytes ≡ page =
          same el (runs_unfinished (place_at i s) (subst (λ (j : ℕ). running (place_at j s) ≡ true) x run)) (subst (λ (j : ℕ). lies_in (place_at j s) (length bytes) ≡ true) x (both (lies_in (place_at k s) (length bytes)) _ rd).0) in (
            refl,
            subst (λ (j : ℕ). P (run_at j bytes w lent).scan) (sym x)
                (subst (λ (l : List ℕ). P (run_of l w.q (place_at i s).scan (share_in (share_of w.words) i lent)).scan) (sym own) (ran_keeps page P f g w.q (place_at i s).scan _ h.1)),
          )))

      after : (x : Ask) → same_bytes i page x s → leaves i x (answer x s) → Has (place_at i (next x s))
      after (admit bytes p) b e = after_admit bytes p
      after (verdict k v) b e = after_verdict k v
      after (a_turn bytes lent) b e = after_turn bytes lent b
      after (collect k) b e = after_collect k e
      after (read_body bytes k scratch) b e = after_body bytes k scratch

    pub place_keeps : (len q : ℕ) → i < 16 → (xs : List Ask) (s : State) → Ranged len q s.worker → Unchanged i page xs s → Has (place_at i s) → Has (place_at i (after_calls xs s))
    place_keeps len q hi [] s r u h = h
    place_keeps len q hi (x ∷ xs) s r u h =
        place_keeps len q hi xs (next x s) (after_call len q s.worker r x) u.2 (after s (omega (arith, r.size)) h x u.0 u.1)

ranged_calls : (len q : ℕ) (xs : List Ask) (s : State) → Ranged len q s.worker → Ranged len q (after_calls xs s).worker
ranged_calls len q [] s r = r
ranged_calls len q (x ∷ xs) s r = ranged_calls len q xs (next x s) (after_call len q s.worker r x)

-- ---- demand 3 supposes as much, and more

same_bytes_lem : (i : ℕ) (page : List ℕ) (x : Ask) (s : State) → lent_well i page x s → same_bytes i page x s
same_bytes_lem i page (admit bytes p) s l = tt
same_bytes_lem i page (verdict k v) s l = tt
same_bytes_lem i page (a_turn bytes lent) s l = λ e u v. (l e).same u
same_bytes_lem i page (collect k) s l = tt
same_bytes_lem i page (read_body bytes k scratch) s l = tt

fair_unchanged : (i : ℕ) (page : List ℕ) (xs : List Ask) (s : State) → Fair i page xs s → Unchanged i page xs s
fair_unchanged i page [] s f = tt
fair_unchanged i page (x ∷ xs) s f = (same_bytes_lem i page x s f.0, f.1, fair_unchanged i page xs (next x s) f.2)

pub demand_3_supposes_more : StaysRemain
demand_3_supposes_more h i s =
    record { starts = s.starts; placed = s.placed; unchanged = fair_unchanged i (text_of h.bytes h.page) h.since (admitted h) s.fair }

-- ---- a page with room

-- as it was admitted
begins_roomy : (len q : ℕ) (bytes : List ℕ) (p : Page) (i : ℕ) (s : State) → Ranged len q s.worker → events_enough (p.long - p.start) ≤ room_in (share_of len)
    → answer (admit bytes p) s ≡ said number.placed (i ∷ []) → (i < 16) × ((place_at i (next (admit bytes p) s)).taken ≡ true) × Roomy (text_of bytes p) (place_at i (next (admit bytes p) s)).scan
begins_roomy len q bytes p i s r enough e =
    view_placed (λ (d : Left). (i < 16) × ((place_in d.worker.places i).taken ≡ true) × Roomy (text_of bytes p) (place_in d.worker.places i).scan) s.worker bytes p i e
    (λ n hi b.
    let own = get_or-set_same s.worker.places i (place_of true p.at n) beyond (omega (arith, r.size)) in
    let fits : events_enough (p.long - p.start) ≤ room_in (share_of s.worker.words) = rw r.lent enough in
    rw own (hi, refl, roomy_begun bytes p.at p.long p.start p.construct p.kind p.flags _ n fits b))

pub room_in_a_place_is_enough : PlaceNeverFull
room_in_a_place_is_enough h i r enough =
    let len = length h.events in
    let page = text_of h.bytes h.page in
    let r₀ = ranged_calls len h.q h.before (begun h.q h.events) (started_ranged h.q len r.starts) in
    let b = begins_roomy len h.q h.bytes h.page i (early h) r₀ enough r.placed in
    let r₁ = after_call len h.q (early h).worker r₀ (admit h.bytes h.page) in
    let k = place_keeps i page (Roomy page) (roomy_step page) (roomy_given page) len h.q b.0 h.since (admitted h) r₁ r.unchanged (b.1, b.2) in
    view_collect (λ (d : Left). NotFull d.answer) (late h).worker i (λ e. omega (arith, e)) (λ hk n. not_full (place_at i (late h)).scan k.1.goes_on)

pub sixteen_times_the_words_are_enough : SharesNeverFull
sixteen_times_the_words_are_enough h i w r says fit =
    room_in_a_place_is_enough h i r (omega (arith, words_hold h.page.long h.page.start w says))

-- ---- the longest page

-- what the start says
says_it : (q words : ℕ) (values : List ℕ) → (start_of q words).answer ≡ said number.started values → longest_in words ≡ values
unfolding start_of when◌then◌else◌
says_it q words values e =
    case _ (worker_in_range (fresh_of q words)) (λ r. ap (λ (a : Said). a.values) (rw r at e)) (λ r. let x : number.bad_call ≡ number.started = ap (λ (a : Said). a.number) (rw r at e) in absurd (omega (arith, x)))

longest_is : (room n : ℕ) → longest_of room ≡ n ∷ [] → (n ≤ page_limit) × (events_enough n ≤ room) × ((page_limit < n + 1) ⊎ (room < events_enough (n + 1)))
unfolding longest_of when◌then◌else◌
longest_is room n e =
    case _ (ltb room (events_enough 0))
    (λ f. let x : 0 ≡ 1 = ap length (rw f at e) in absurd (omega (arith, x)))
    (λ f. case _ (leb (events_enough page_limit) room)
    (λ g. let x : page_limit ≡ n = ap (λ (l : List ℕ). get_or l 0 0) (rw (f, g) at e) in
    (omega (arith, x), omega (arith, x, leb-true (events_enough page_limit) room g), inl (omega (arith, x))))
    (λ g. let x : room / 6 - 1 ≡ n = ap (λ (l : List ℕ). get_or l 0 0) (rw (f, g) at e) in
    let m = ltb-false room (events_enough 0) f in
    let t = leb-false (events_enough page_limit) room g in
    (omega (arith, x, m, t), omega (arith, x, m), inr (omega (arith, x, m)))))

none_is : (room : ℕ) → longest_of room ≡ [] → room < events_enough 0
unfolding longest_of when◌then◌else◌
none_is room e =
    case _ (ltb room (events_enough 0)) (λ f. ltb-true room (events_enough 0) f)
    (λ f. case _ (leb (events_enough page_limit) room)
    (λ g. let x : 1 ≡ 0 = ap length (rw (f, g) at e) in absurd (omega (arith, x)))
    (λ g. let x : 1 ≡ 0 = ap length (rw (f, g) at e) in absurd (omega (arith, x))))

pub the_longest_is_the_longest : LongestSaid
the_longest_is_the_longest =
    record {
      one = λ q words n e.
          let l = longest_is (room_in (share_of words)) n (says_it q words (n ∷ []) e) in
          record { short = l.0; covered = l.1; last = l.2 };
      none = λ q words e. none_is (room_in (share_of words)) (says_it q words [] e);
    }

pub no_page_up_to_the_longest_runs_full : LongestNeverFull
no_page_up_to_the_longest_runs_full h i n r says short =
    room_in_a_place_is_enough h i r (omega (arith, (the_longest_is_the_longest.one h.q (length h.events) n says).covered))
