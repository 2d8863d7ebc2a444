-- One page of the worker, from its admission on: where it stands, and how many turns passed. Every turn that goes to another place brings
-- its own nearer round the ring; every turn that goes to it makes q steps of at most 8(n+1), or ends in a question or an answer.
use Prim.Native.Nat.{ℕ, suc, ◌+◌, ◌-◌, ◌*◌, ◌/◌, ◌≤◌, ◌<◌}
use native.Mathlib.Omega.{arith}
use native.Mathlib.Nat.{add-zero, add_assoc, mul-suc, mul-add, mul-one, lt-mul-div-succ, lt_of_mul-lt-mul_left}
use native.Mathlib.Decide.{ℕ_discrete, dec_le}
use mathlib.Core.Path.{◌≡◌, refl, sym, ap, ◌∙◌, subst, subst₂}
use mathlib.Core.Logic.{◌≢◌, by_cases}
use mathlib.Core.Bool.{Bool, true, false, not, ◌&&◌, true≢false, false≢true}
use mathlib.Core.List.{List, [], ◌∷◌, ◌++◌, append-nil, append_assoc}
use lib.ListN.{length, set, length-append}
use lib.Seq.{get_or-set_same, get_or-set_other}
use lib.Dec.{leb, eqb}
use borrow.Author.Tests.{eq-eqb, ne_eqb, eqb-true, eqb-false, le-leb, lt-leb, leb-true, le-ltb, lt-ltb, ltb-true, ltb-false}
use Rattle.base.specs.If.{when◌then◌else◌}
use Rattle.base.proofs.Choice.{if_is, if_yes, case, both, and_yes, and_no'}
use Rattle.base.specs.Number as number
use Rattle.base.specs.State.{asking, rests}
use Rattle.base.specs.declared.Verdict.{Verdict}
use Rattle.events.specs.Share.{share_of, share_in, with_share}
use Rattle.events.specs.Span.{front_of}
use Rattle.events.specs.Words.{events_in}
use Rattle.events.specs.declared.Event.{Event}
use Rattle.events.proofs.Laws.{written_long}
use Rattle.events.proofs.Shares.{share_own, share_other}
use Rattle.tokenizer.specs.declared.Job.{Job}
use Rattle.tokenizer.specs.Ranges.{esm, verdict_in_range}
use Rattle.scan.specs.declared.Scan.{Scan}
use Rattle.scan.specs.Answer.{said}
use Rattle.scan.specs.Scan.{step_bound, run_scan, run_events, run_words}
use Rattle.scan.specs.Call.{givable, given_scan, job_of, fresh_scan}
use Rattle.scan.proofs.Pausing.{events_are_counted}
use Rattle.scan_theorems.proofs.Scans.{Within, within_run, run_ends, within_given, job_kept}
use Rattle.scan_theorems.proofs.Due as steps
use Rattle.worker.specs.declared.Place.{Place}
use Rattle.worker.specs.declared.Worker.{Worker}
use Rattle.worker.specs.Place.{place_of, free_place, beyond, place_in, running, state_of, next_in, place_in_range, holds}
use Rattle.worker.specs.Reply.{Left, left, refusing}
use Rattle.worker.specs.Ring.{after}
use Rattle.worker.specs.Worker.{page_in, body_call, share_at, events_at}
use Rattle.worker.proofs.Laws.{held_scan, holds_by, events_held, turn_length}
use Rattle.worker_theorems.specs.Calls.{Page, Ask, admit, verdict, a_turn, collect, read_body, State, answer, next, after_calls, place_at, events_of}
use Rattle.worker_theorems.specs.Demand3.{verdict_to, verdicts_to, turn_while, turns_while, unfinished, Lent, lent_well, leaves, Fair, bound, turns_for}
use Rattle.worker_theorems.proofs.Ranged.{Ranged, ranged_own, after_call}
use Rattle.worker_theorems.proofs.Refused.{answer_given}
use Rattle.worker_theorems.proofs.Ring.{gap, Found, seek_finds, gap_nearer, gap_small, after_small}
use Rattle.worker_theorems.proofs.Single.{counted, Reached, reached_run, reached_given, Stand, stand_more, stand_read}
use Rattle.worker_theorems.proofs.Turns.{share_fits, share_long, turn_long, served_length, served, fair_turn}
use Rattle.worker_theorems.proofs.Views.{view_admit, view_verdict, view_collect}

-- ---- small laws

-- a state that does not rest runs, and the other way round
pub runs_yes : (n : ℕ) → rests n ≡ false → leb 32 n ≡ true
runs_yes n e = le-leb 32 n (ltb-false n 32 e)

pub runs_no : (n : ℕ) → leb 32 n ≡ true → rests n ≡ false
runs_no n e = le-ltb n 32 (leb-true 32 n e)

-- a page that runs is not finished
pub runs_unfinished : (p : Place) → running p ≡ true → unfinished p ≡ true
runs_unfinished p r =
    let a = both p.taken _ r in
    and_yes _ _ a.0 (ap not (le-ltb (state_of p) asking (omega (arith, leb-true 32 (state_of p) a.1))))

given_runs : (s : Scan) (v : Verdict) → rests (given_scan s v).tokenizer.state ≡ false
unfolding given_scan
given_runs s v = if_is ℕ (λ (n : ℕ). rests n ≡ false) (eqb s.tokenizer.job.construct esm) _ _ (λ e. refl) (λ e. refl)

given_same : (s : Scan) (v : Verdict) → ((given_scan s v).steps ≡ s.steps) × ((given_scan s v).used ≡ s.used) × ((given_scan s v).tokenizer.job ≡ s.tokenizer.job)
unfolding given_scan
given_same s v = (refl, refl, refl)

snoc_long : {A : Type 0} (l : List A) (a : A) → length (l ++ (a ∷ [])) ≡ suc (length l)
snoc_long l a = omega (arith, length-append l (a ∷ []))

pub givable_parts : (s : Scan) (v : Verdict) → givable s v ≡ true → (s.tokenizer.state ≡ asking) × (verdict_in_range v ≡ true)
unfolding givable
givable_parts s v e =
    let a = both (eqb s.tokenizer.state asking) _ e in
    (eqb-true s.tokenizer.state asking a.0, (both (verdict_in_range v) _ a.1).0)

-- what every state that calls give has
pub record Good (len q : ℕ) (s : State) : Type 0 where
  pub ranged : Ranged len q s.worker
  pub room : length s.words ≡ len

module _ (len q : ℕ) where
  pub stays_good : (x : Ask) (s : State) → Good len q s → Good len q (next x s)
  stays_good x s g = record { ranged = after_call len q s.worker g.ranged x; room = words_long x }
    where
      words_long : (x : Ask) → length (next x s).words ≡ len
      words_long (admit bytes p) = g.room
      words_long (verdict k v) = g.room
      words_long (a_turn bytes lent) =
          if_is (List ℕ) (λ (l : List ℕ). length l ≡ len) _ _ s.words (λ e. turn_long s.worker bytes lent ∙ served_length s.worker bytes lent e ∙ g.ranged.lent) (λ e. g.room)
      words_long (collect k) = g.room
      words_long (read_body bytes k scratch) = g.room

  pub good_calls : (xs : List Ask) (s : State) → Good len q s → Good len q (after_calls xs s)
  good_calls [] s g = g
  good_calls (x ∷ xs) s g = good_calls xs (next x s) (stays_good x s g)

module _ (len q : ℕ) (page : List ℕ) (pg : Page) (i : ℕ) (hi : i < 16) where
  abbrev job : Job
  job = job_of pg.construct pg.kind pg.flags pg.long pg.start (share_of len)

  -- the page at place i with its share of the buffer, after the verdicts vs and m turns, where l was served last; n is how often it was
  -- served itself, and es are its events
  pub record At (vs : List Verdict) (m l : ℕ) (p : Place) (words : List ℕ) : Type 0 where
    pub n : ℕ
    pub es : List Event
    pub taken : p.taken ≡ true
    pub same : p.scan.tokenizer.job ≡ job
    pub within : Within page p.scan
    pub reached : Reached page (bound pg) (fresh_scan page job) vs p.scan es
    pub stand : Stand p.scan.used words es
    pub goes : rests (state_of p) ≡ false → (q * n ≤ p.scan.steps + q * length vs) × (m + gap (after l) i ≤ 16 * n + 15)
    pub waits : state_of p ≡ asking → (q * n ≤ p.scan.steps + q * length vs + q) × (m ≤ 16 * n)

  kept : (vs : List Verdict) (m l : ℕ) (p : Place) (words : List ℕ) → At vs m l p words → At (vs ++ []) (m + 0) l p words
  kept vs m l p words h = rw (append-nil, add-zero) h

  bound_is : (vs : List Verdict) (m l : ℕ) (p : Place) (words : List ℕ) → At vs m l p words → step_bound p.scan.tokenizer.job ≡ bound pg
  bound_is vs m l p words h = ap step_bound h.same

  -- of its share only the words of its events matter
  in_words : (vs : List Verdict) (m l : ℕ) (p : Place) (words words' : List ℕ) → front_of words' p.scan.used ≡ front_of words p.scan.used → At vs m l p words → At vs m l p words'
  in_words vs m l p words words' e h =
      record {
        n = h.n;
        es = h.es;
        taken = h.taken;
        same = h.same;
        within = h.within;
        reached = h.reached;
        stand = record { count = h.stand.count; hold = e ∙ h.stand.hold };
        goes = h.goes;
        waits = h.waits;
      }

  -- a verdict for it
  given : (vs : List Verdict) (m l : ℕ) (p : Place) (words : List ℕ) (v : Verdict) → givable p.scan v ≡ true → At vs m l p words
      → At (vs ++ (v ∷ [])) (m + 0) l (place_of true p.at (given_scan p.scan v)) words
  given vs m l p words v g h =
      let a = givable_parts p.scan v g in
      let c = h.waits a.0 in
      let s = given_same p.scan v in
      record {
        n = h.n;
        es = h.es;
        taken = refl;
        same = s.2 ∙ h.same;
        within = within_given page p.scan v h.within a.0 a.1;
        reached = reached_given page (bound pg) (fresh_scan page job) vs p.scan h.es v h.within (bound_is vs m l p words h) a.0 a.1 h.reached;
        stand = subst (λ (k : ℕ). Stand k words h.es) (sym s.1) h.stand;
        goes = λ r.
            (omega (arith, c.0, s.0, mul-suc q (length vs), ap (λ (k : ℕ). q * k) (snoc_long vs v)), omega (arith, c.1, gap_small (after l) i));
        waits = λ e. absurd (true≢false (sym (ap rests e) ∙ given_runs p.scan v));
      }

  -- a turn of it
  turned : (vs : List Verdict) (m l : ℕ) (p : Place) (words : List ℕ) → length words ≡ share_of len → rests (state_of p) ≡ false → At vs m l p words
      → At (vs ++ []) (m + 1) i (place_of true p.at (run_scan page q p.scan)) (run_words page q p.scan words)
  turned vs m l p words long r h =
      let c = counted page q p.scan h.within in
      let a = h.goes r in
      let u = events_are_counted page q p.scan in
      let j : (run_scan page q p.scan).tokenizer.job.words ≡ share_of len = ap (λ (x : Job). x.words) (job_kept page q p.scan ∙ h.same) in
      let w = within_run page q p.scan h.within in
      rw append-nil
      (record {
        n = h.n + 1;
        es = h.es ++ run_events page q p.scan;
        taken = refl;
        same = job_kept page q p.scan ∙ h.same;
        within = w;
        reached = reached_run page (bound pg) (fresh_scan page job) vs p.scan h.es h.within q h.reached;
        stand = subst (λ (k : ℕ). Stand k (run_words page q p.scan words) (h.es ++ run_events page q p.scan)) (sym u)
            (stand_more p.scan.used words h.es (run_events page q p.scan) (omega (arith, w.room, u, j, long)) h.stand);
        goes = λ e. (omega (arith, a.0, c.all e, mul-add q h.n 1, mul-one q), omega (arith, a.1, gap_small (after i) i));
        waits = λ e. (omega (arith, a.0, c.least, mul-add q h.n 1, mul-one q), omega (arith, a.1));
      })

  -- a turn of another place k, which is nearer; or of none
  passed : (vs : List Verdict) (m l k : ℕ) (p : Place) (words : List ℕ) → (running p ≡ true → gap (after k) i + 1 ≤ gap (after l) i) → At vs m l p words
      → At (vs ++ []) (m + (when running p && true then 1 else 0)) k p words
  unfolding when◌then◌else◌
  passed vs m l k p words near h =
      case _ (rests (state_of p))
      (λ e.
      let f : running p ≡ false = ap (λ (b : Bool). p.taken && b) (lt-leb 32 (state_of p) (ltb-true (state_of p) 32 e)) ∙ rw h.taken in
      rw (f, append-nil)
      (record {
        n = h.n;
        es = h.es;
        taken = h.taken;
        same = h.same;
        within = h.within;
        reached = h.reached;
        stand = h.stand;
        goes = λ r. absurd (true≢false (sym e ∙ r));
        waits = λ a. ((h.waits a).0, omega (arith, (h.waits a).1));
      }))
      (λ e.
      let f : running p ≡ true = and_yes _ _ h.taken (runs_yes (state_of p) e) in
      rw (f, append-nil)
      (record {
        n = h.n;
        es = h.es;
        taken = h.taken;
        same = h.same;
        within = h.within;
        reached = h.reached;
        stand = h.stand;
        goes = λ r. ((h.goes e).0, omega (arith, (h.goes e).1, near f));
        waits = λ a. absurd (false≢true (sym e ∙ ap rests a));
      }))

  -- ---- a call

  abbrev share_of_i : Worker → List ℕ → List ℕ
  share_of_i w words = share_in (share_of w.words) i words

  abbrev pub Here : List Verdict → ℕ → State → Type 0
  Here vs m s = At vs m s.worker.last (place_at i s) (share_of_i s.worker s.words)

  -- another place is replaced
  other : (vs : List Verdict) (m : ℕ) (s : State) (k : ℕ) (p : Place) → i ≢ k → Here vs m s → At vs m s.worker.last (place_in (set s.worker.places k p) i) (share_of_i s.worker s.words)
  other vs m s k p ne h = subst (λ (x : Place). At vs m s.worker.last x (share_of_i s.worker s.words)) (sym (get_or-set_other s.worker.places k i p beyond ne)) h

  module _ (vs : List Verdict) (m : ℕ) (s : State) (g : Good len q s) (h : Here vs m s) where
    abbrev w : Worker
    w = s.worker

    -- what a caller reads of a buffer are the words of its events
    pub is_held : holds i w ≡ true
    is_held =
        sym (holds_by i w true hi (ranged_own len q w g.ranged)
        (sym (and_yes _ _ h.taken (ap (λ (n : ℕ). place_in_range (share_of n) (place_at i s)) g.ranged.lent ∙ g.ranged.each i hi h.taken))))

    reads : (words : List ℕ) → length words ≡ w.words → events_at words i w ≡ front_of (share_of_i w words) (place_at i s).scan.used
    unfolding share_at
    reads words e = sym (events_held words i w is_held (share_of_i w words) (if_yes _ _ _ _ _ (and_yes _ _ (lt-ltb i 16 hi) (eq-eqb (length words) w.words e)) refl))

    full_length : length s.words ≡ w.words
    full_length = g.room ∙ sym g.ranged.lent

    pub reads_events : events_of i s ≡ h.es
    reads_events = ap (λ (l : List ℕ). events_in l 0 (place_at i s).scan.used) (reads s.words full_length) ∙ stand_read (place_at i s).scan.used (share_of_i w s.words) h.es h.stand

    -- ---- the calls

    after_admit : (bytes : List ℕ) (p : Page) → Here (vs ++ []) (m + 0) (next (admit bytes p) s)
    after_admit bytes p =
        view_admit (λ (d : Left). At (vs ++ []) (m + 0) d.worker.last (place_in d.worker.places i) (share_of_i d.worker s.words)) w bytes p
        (λ a e. kept vs m _ _ _ h)
        (λ k n hk t e. kept vs m _ _ _ (other vs m s k (place_of true p.at n) (λ (x : i ≡ k). true≢false (sym h.taken ∙ ap (λ (j : ℕ). (place_at j s).taken) x ∙ t)) h))

    after_verdict : (k : ℕ) (v : Verdict) → Here (vs ++ verdict_to i (verdict k v) (answer (verdict k v) s)) (m + 0) (next (verdict k v) s)
    unfolding when◌then◌else◌
    after_verdict k v =
        view_verdict (λ (d : Left). At (vs ++ verdict_to i (verdict k v) d.answer) (m + 0) d.worker.last (place_in d.worker.places i) (share_of_i d.worker s.words)) w k v
        (kept vs m _ _ _ h)
        (λ hk gv.
        by_cases (ℕ_discrete k i)
        (λ (e : k ≡ i).
        let f : givable (place_at i s).scan v ≡ true = subst (λ (j : ℕ). givable (place_at j s).scan v ≡ true) e gv in
        let o = get_or-set_same w.places i (place_of true (place_at i s).at (given_scan (place_at i s).scan v)) beyond (omega (arith, g.ranged.size)) in
        rw (eq-eqb k i e)
        (subst (λ (j : ℕ). At (vs ++ (v ∷ [])) (m + 0) w.last (place_in (set w.places j (place_of true (place_at j s).at (given_scan (place_at j s).scan v))) i) (share_of_i w s.words)) (sym e)
        (subst (λ (x : Place). At (vs ++ (v ∷ [])) (m + 0) w.last x (share_of_i w s.words)) (sym o) (given vs m _ _ _ v f h))))
        (λ (ne : k ≢ i). rw (ne_eqb k i ne) (kept vs m _ _ _ (other vs m s k _ (λ (x : i ≡ k). ne (sym x)) h))))

    after_collect : (k : ℕ) → leaves i (collect k) (answer (collect k) s) → Here (vs ++ []) (m + 0) (next (collect k) s)
    after_collect k =
        view_collect (λ (d : Left). leaves i (collect k) d.answer → At (vs ++ []) (m + 0) d.worker.last (place_in d.worker.places i) (share_of_i d.worker s.words)) w k
        (λ e. kept vs m _ _ _ h)
        (λ hk f e.
        let a : eqb k i ≡ false = rw (answer_given (place_at k s).scan (held_scan k w hk)) at e in
        kept vs m _ _ _ (other vs m s k free_place (λ (x : i ≡ k). eqb-false k i a (sym x)) h))

    after_body : (bytes : List ℕ) (k : ℕ) (scratch : List ℕ) → Here (vs ++ []) (m + 0) (next (read_body bytes k scratch) s)
    unfolding body_call
    after_body bytes k scratch =
        if_is Left (λ (d : Left). At (vs ++ []) (m + 0) d.worker.last (place_in d.worker.places i) (share_of_i d.worker s.words)) _ _ _ (λ e. kept vs m _ _ _ h) (λ e. kept vs m _ _ _ h)

    -- ---- a turn

    -- what is to be shown of it
    abbrev Turned : Left → Type 0
    Turned d =
        At (vs ++ []) (m + turn_while (place_at i s) (a_turn [] []) d.answer) d.worker.last (place_in d.worker.places i)
        (share_of_i d.worker (when eqb d.answer.number number.served then d.memory else s.words))

    -- one over a buffer of another length is refused, and not counted
    not_served : (lent : List ℕ) → Turned (refusing w lent)
    unfolding when◌then◌else◌
    not_served lent = rw (and_no' (running (place_at i s)) false refl) (kept vs m _ _ _ h)

    -- where it runs, a turn goes to a place that is not farther than it
    found : running (place_at i s) ≡ true → Found (λ k. running (place_at k s)) (after w.last) i (next_in w.places w.last)
    found r = seek_finds (λ k. running (place_at k s)) 16 (after w.last) i (after_small w.last) hi r (gap_small (after w.last) i)

    module _ (bytes lent : List ℕ) (el : length lent ≡ w.words) (L : Lent i page bytes lent s) where
      -- the page and its events are as they were left
      here : At vs m w.last (place_at i s) (share_of_i w lent)
      here = in_words vs m w.last (place_at i s) _ _ (sym (reads lent el) ∙ L.stand ∙ reads s.words full_length) h

      idles : 16 ≤ next_in w.places w.last → Turned (left w (said number.idle []) lent)
      unfolding when◌then◌else◌
      idles none = passed vs m w.last w.last (place_at i s) _ (λ r. absurd (omega (arith, none, (found r).small))) h

      abbrev size : ℕ
      size = share_of w.words

      -- what a turn of place k makes of it
      abbrev ran_place : ℕ → Place
      ran_place k = place_of true (place_at k s).at (run_scan (page_in (place_at k s) bytes) w.q (place_at k s).scan)

      abbrev ran_words : ℕ → List ℕ
      ran_words k = run_words (page_in (place_at k s) bytes) w.q (place_at k s).scan (share_in size k lent)

      ran_long : (k : ℕ) → k < 16 → length (ran_words k) ≡ size
      ran_long k hk = written_long (share_in size k lent) (place_at k s).scan.used (run_events (page_in (place_at k s) bytes) w.q (place_at k s).scan) ∙ share_long w lent el k hk

      turn_own : running (place_at i s) ≡ true → At (vs ++ []) (m + 1) i (place_in (set w.places i (ran_place i)) i) (share_in size i (with_share lent size i (ran_words i)))
      turn_own run =
          let p = place_at i s in
          let t = turned vs m w.last p (share_in size i lent) (share_long w lent el i hi ∙ ap share_of g.ranged.lent) (runs_no (state_of p) (both p.taken _ run).1) here in
          let a = subst (λ (x : List ℕ). At (vs ++ []) (m + 1) i (place_of true p.at (run_scan x q p.scan)) (run_words x q p.scan (share_in size i lent))) (sym (L.same (runs_unfinished p run))) t in
          let b = subst (λ (n : ℕ). At (vs ++ []) (m + 1) i (place_of true p.at (run_scan (page_in p bytes) n p.scan)) (run_words (page_in p bytes) n p.scan (share_in size i lent))) (sym g.ranged.turns) a in
          subst₂ (λ (x : Place) (y : List ℕ). At (vs ++ []) (m + 1) i x y)
          (sym (get_or-set_same w.places i (ran_place i) beyond (omega (arith, g.ranged.size))))
          (sym (share_own lent size i (ran_words i) (share_fits w lent el i hi) (ran_long i hi)))
          b

      turn_other : (k : ℕ) → k ≡ next_in w.places w.last → k < 16 → i ≢ k
          → At (vs ++ []) (m + (when running (place_at i s) && true then 1 else 0)) k (place_in (set w.places k (ran_place k)) i) (share_in size i (with_share lent size k (ran_words k)))
      turn_other k e hk ne =
          let l = w.last in
          let near : running (place_at i s) ≡ true → gap (after k) i + 1 ≤ gap (after l) i =
          λ r. gap_nearer (after l) k i (after_small l) hk hi (λ x. ne (sym x)) (subst (λ (j : ℕ). gap (after l) j ≤ gap (after l) i) (sym e) (found r).first) in
          subst₂ (λ (x : Place) (y : List ℕ). At (vs ++ []) (m + (when running (place_at i s) && true then 1 else 0)) k x y)
          (sym (get_or-set_other w.places k i (ran_place k) beyond ne))
          (sym (share_other lent size k (ran_words k) (share_fits w lent el k hk) (ran_long k hk) i ne))
          (passed vs m l k (place_at i s) (share_in size i lent) near here)

      serves : (k : ℕ) → k ≡ next_in w.places w.last → k < 16 → running (place_at k s) ≡ true → Turned (served len q w g.ranged bytes lent el k)
      unfolding when◌then◌else◌
      serves k e hk run =
          by_cases (ℕ_discrete i k)
          (λ (x : i ≡ k).
          let c : running (place_at i s) ≡ true = subst (λ (j : ℕ). running (place_at j s) ≡ true) (sym x) run in
          rw c
          (subst (λ (j : ℕ). At (vs ++ []) (m + 1) j (place_in (set w.places j (ran_place j)) i) (share_in size i (with_share lent size j (ran_words j)))) x (turn_own c)))
          (λ (ne : i ≢ k). turn_other k e hk ne)

    after_turn : (bytes lent : List ℕ) → lent_well i page (a_turn bytes lent) s → Here (vs ++ []) (m + turn_while (place_at i s) (a_turn bytes lent) (answer (a_turn bytes lent) s)) (next (a_turn bytes lent) s)
    after_turn bytes lent well =
        by_cases (ℕ_discrete (length lent) w.words)
        (λ (el : length lent ≡ w.words).
        let L = well el in
        fair_turn len q w g.ranged bytes lent el Turned (λ k hk run. L.inside k hk (runs_unfinished (place_at k s) run)) (idles bytes lent el L) (serves bytes lent el L))
        (λ (ne : length lent ≡ w.words → ⊥). subst Turned (turn_length bytes w lent ne) (not_served lent))

    here_after : (x : Ask) → lent_well i page x s → leaves i x (answer x s) → Here (vs ++ verdict_to i x (answer x s)) (m + turn_while (place_at i s) x (answer x s)) (next x s)
    here_after (admit bytes p) l e = after_admit bytes p
    here_after (verdict k v) l e = after_verdict k v
    here_after (a_turn bytes lent) l e = after_turn bytes lent l
    here_after (collect k) l e = after_collect k e
    here_after (read_body bytes k scratch) l e = after_body bytes k scratch

  pub by_calls : (xs : List Ask) (vs : List Verdict) (m : ℕ) (s : State) → Good len q s → Fair i page xs s → Here vs m s
      → Here (vs ++ verdicts_to i xs s) (m + turns_while i xs s) (after_calls xs s)
  by_calls [] vs m s g u h = rw (append-nil, add-zero) h
  by_calls (x ∷ xs) vs m s g u h =
      rw (← append_assoc, ← add_assoc) (by_calls xs _ _ (next x s) (stays_good len q x s g) u.2 (here_after vs m s g h x u.0 u.1))

  -- ---- how few turns

  module _ (q1 : 1 ≤ q) where
    ceil : (b : ℕ) → b ≤ q * turns_for b q
    ceil b = omega (arith, lt-mul-div-succ (b + (q - 1)) q1, mul-add q ((b + (q - 1)) / q) 1, mul-one q)

    few : (b n s k m g : ℕ) → n < b → q * s ≤ n + q * k → m + g ≤ 16 * s + 15 → m < 16 * (turns_for b q + k)
    few b n s k m g hn hs hm =
        let h : s < turns_for b q + k = lt_of_mul-lt-mul_left q (omega (arith, ceil b, mul-add q (turns_for b q) k)) in
        omega arith

    -- there is a step left to a scan that runs
    some_left : (s : Scan) → Within page s → rests s.tokenizer.state ≡ false → 0 < steps.left page s.tokenizer
    unfolding run_scan
    some_left s w r =
        by_cases (dec_le (steps.left page s.tokenizer) 0)
        (λ (z : steps.left page s.tokenizer ≤ 0). absurd (true≢false (sym (run_ends page 0 s w z) ∙ r)))
        (λ (z : steps.left page s.tokenizer ≤ 0 → ⊥). omega arith)

    pub soon_of : (vs : List Verdict) (m l : ℕ) (p : Place) (words : List ℕ) → At vs m l p words → running p ≡ true → m < 16 * (turns_for (bound pg) q + length vs)
    soon_of vs m l p words h r =
        let e = runs_no (state_of p) (both p.taken _ r).1 in
        let a = h.goes e in
        few (bound pg) p.scan.steps h.n (length vs) m (gap (after l) i) (omega (arith, some_left p.scan h.within e, h.within.paid, bound_is vs m l p words h)) a.0 a.1
