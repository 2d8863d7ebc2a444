-- Which case of the worker's definition a call is, over plain variables: what the proofs of the calls cite.
use Prim.Native.Nat.{ℕ, ◌+◌, ◌-◌, ◌*◌, ◌≤◌, ◌<◌}
use native.Mathlib.Omega.{arith}
use native.Mathlib.Nat.{mul-le-mul_right, le-pred_of_lt}
use mathlib.Core.Path.{◌≡◌, refl, sym, ap, ap₂, ◌∙◌}
use mathlib.Core.Bool.{Bool, true, false, not, ◌&&◌}
use mathlib.Core.List.{List, [], ◌∷◌, ◌++◌}
use lib.ListN.{length, take, drop}
use lib.Dec.{ltb, eqb}
use borrow.Author.Tests.{eq-eqb, ne_eqb, le-leb, lt-leb, le-ltb, lt-ltb, eqb-true, ltb-true, leb-true}
use Rattle.std.specs.Prelude.{Some, None}
use Rattle.base.proofs.Choice.{if_yes, if_no, if_is, and_yes, and_no, and_no', and_also, both}
use Rattle.base.specs.declared.Verdict.{Verdict}
use Rattle.events.specs.Share.{share_of, share_start}
use Rattle.events.specs.Span.{front_of}
use Rattle.scan.specs.declared.Ran.{Ran}
use Rattle.scan.specs.Answer.{Said, said, answer_of}
use Rattle.scan.specs.Call as single-call
use Rattle.scan.specs.Call.{Begun, scan_in_range, asked_answer, numbers_listed, give_of, begin_of, run_of}
use Rattle.room.specs.Room.{longest_in}
use Rattle.mdx_collect.specs.Collect.{Collected, collected, piece_of, collect_of}
use Rattle.worker.specs.declared.Place.{Place}
use Rattle.worker.specs.declared.Worker.{Worker}
use Rattle.worker.specs.Place.{place_of, free_place, place_in, ended, place_in_range, next_in, lowest_in, stored, worker_in_range, holds}
use Rattle.worker.specs.Inner.{Turned, sought, own_in_range}
use Rattle.worker.proofs.Ring.{free_in, none_free, one_free, none_sought, one_sought}
use Rattle.worker.specs.Reply.{Left, left, refusing}
use Rattle.worker.specs.Worker.{fresh_of, start_of, placed_by, admit_of, given_by, verdict_of, collect_call, page_in, lies_in, served_at, ready, turn_at, turn_of, holds_page, read_by, body_call, page_at, start_at, share_at, events_at}

-- a test that the code makes the other way round
pub not_no : (b : Bool) → not b ≡ false → b ≡ true
not_no true e = refl
not_no false e = sym e

-- ---- what the tests tell

pub in_ring : (w : Worker) → worker_in_range w ≡ true → w.last < 16
unfolding worker_in_range
in_ring w e = ltb-true w.last 16 (both (ltb w.last 16) _ e).0

pub range_of : (w : Worker) → own_in_range w.last w.q ≡ worker_in_range w
unfolding own_in_range worker_in_range
range_of w = refl

-- a page that is ready lies in the bytes
pub lies : (p : Place) (lent : ℕ) → lies_in p lent ≡ true → p.at + p.scan.tokenizer.job.length ≤ lent
lies p lent e = leb-true (p.at + p.scan.tokenizer.job.length) lent e

pub ready_lies : (p : Place) (lent n : ℕ) → ready p lent n ≡ true → p.at + p.scan.tokenizer.job.length ≤ lent
ready_lies p lent n e = lies p lent (both (lies_in p lent) _ e).0

pub found_near : (n k : ℕ) → sought n ≡ Some k → k < 16
found_near n k e = (one_sought n k e).1

-- the share of place k lies in the buffer
pub part_fits : (k n s : ℕ) → k < 16 → s ≡ share_of n → k * s + s ≤ n
part_fits k n s h e = omega (arith, mul-le-mul_right s (le-pred_of_lt h))

-- ---- a place

module _ (i : ℕ) (w : Worker) where
  abbrev place : Place
  place = place_in w.places i

  pub holds_far : 16 ≤ i → false ≡ holds i w
  unfolding holds
  holds_far h = sym (and_no _ _ (le-ltb i 16 h))

  pub holds_forged : worker_in_range w ≡ false → false ≡ holds i w
  unfolding holds
  holds_forged e = sym (and_no' (ltb i 16) _ (and_no _ _ e))

  pub holds_by : (r : Bool) → i < 16 → worker_in_range w ≡ true → r ≡ (place.taken && place_in_range (share_of w.words) place) → r ≡ holds i w
  unfolding holds
  holds_by r h e f = and_also _ _ _ (lt-ltb i 16 h) (and_also _ _ _ e f)

  -- what the test tells
  pub record Held : Type 0 where
    pub small : i < 16
    pub range : worker_in_range w ≡ true
    pub taken : place.taken ≡ true
    pub given : place_in_range (share_of w.words) place ≡ true

  pub held : holds i w ≡ true → Held
  unfolding holds
  held e =
      let a = both (ltb i 16) _ e in
      let b = both (worker_in_range w) _ a.1 in
      let c = both place.taken _ b.1 in
      record { small = ltb-true i 16 a.0; range = b.0; taken = c.0; given = c.1 }

  pub held_near : holds i w ≡ true → i < 16
  held_near e = (held e).small

  pub held_taken : holds i w ≡ true → place.taken ≡ true
  held_taken e = (held e).taken

  pub held_scan : holds i w ≡ true → scan_in_range place.scan ≡ true
  unfolding place_in_range
  held_scan e = (both (eqb place.scan.tokenizer.job.words (share_of w.words)) _ (held e).given).1

-- ---- a worker started

module _ (q words : ℕ) (w : Worker) (e : w ≡ fresh_of q words) where
  pub start_yes : (longest : List ℕ) → longest ≡ longest_in words → worker_in_range w ≡ true → left w (said 34 longest) [] ≡ start_of q words
  unfolding start_of
  start_yes longest l r = ap₂ (λ (v : Worker) (k : List ℕ). left v (said 34 k) []) e l ∙ if_yes _ _ _ _ _ (sym (ap worker_in_range e) ∙ r) refl

  pub start_no : worker_in_range w ≡ false → refusing w [] ≡ start_of q words
  unfolding start_of
  start_no r = ap (λ (v : Worker). refusing v []) e ∙ if_no _ _ _ _ _ (sym (ap worker_in_range e) ∙ r) refl

-- ---- admission

module _ (bytes : List ℕ) (at n start construct kind flags : ℕ) (w : Worker) where
  pub admit_unlisted : numbers_listed construct kind flags ≡ false → refusing w [] ≡ admit_of bytes at n start construct kind flags w
  unfolding admit_of
  admit_unlisted e = if_no _ _ _ _ _ (and_no _ _ e) refl

  pub admit_forged : worker_in_range w ≡ false → refusing w [] ≡ admit_of bytes at n start construct kind flags w
  unfolding admit_of
  admit_forged e = if_no _ _ _ _ _ (and_no' (numbers_listed construct kind flags) _ e) refl

  module _ (size : length w.places ≡ 16) (l : numbers_listed construct kind flags ≡ true) (r : worker_in_range w ≡ true) where
    pub admit_full : free_in w.places ≡ None → left w (said 11 []) [] ≡ admit_of bytes at n start construct kind flags w
    unfolding admit_of
    admit_full e = if_yes _ _ _ _ _ (and_yes _ _ l r) (if_yes _ _ _ _ _ (le-leb 16 (lowest_in w.places) (none_free w.places size e)) refl)

    pub admit_placed : (k : ℕ) → free_in w.places ≡ Some k → (b : Begun) → b ≡ begin_of bytes at n start construct kind flags (share_of w.words)
        → placed_by b k at w ≡ admit_of bytes at n start construct kind flags w
    unfolding admit_of
    admit_placed k found b e =
        let near = one_free w.places size k found in
        if_yes _ _ _ _ _ (and_yes _ _ l r)
        (if_no _ _ _ _ _ (lt-leb 16 (lowest_in w.places) (omega arith)) (ap₂ (λ (x : Begun) (j : ℕ). placed_by x j at w) e (sym near.0)))

-- ---- a verdict

module _ (i : ℕ) (v : Verdict) (w : Worker) where
  pub verdict_none : holds i w ≡ false → refusing w [] ≡ verdict_of i v w
  unfolding verdict_of
  verdict_none e = if_no _ _ _ _ _ e refl

  pub verdict_given : holds i w ≡ true → (g : single-call.Left) → g ≡ give_of (place_in w.places i).scan v → given_by g i w ≡ verdict_of i v w
  unfolding verdict_of
  verdict_given e g f = if_yes _ _ _ _ _ e (ap (λ (x : single-call.Left). given_by x i w) f)

-- ---- collecting

module _ (i : ℕ) (w : Worker) where
  pub collect_none : holds i w ≡ false → refusing w [] ≡ collect_call i w
  unfolding collect_call
  collect_none e = if_no _ _ _ _ _ (and_no _ _ e) refl

  pub collect_unfinished : ended (place_in w.places i) ≡ false → refusing w [] ≡ collect_call i w
  unfolding collect_call
  collect_unfinished e = if_no _ _ _ _ _ (and_no' (holds i w) _ e) refl

  pub collect_gives : holds i w ≡ true → ended (place_in w.places i) ≡ true → left (stored w i free_place w.last) (answer_of (place_in w.places i).scan) [] ≡ collect_call i w
  unfolding collect_call
  collect_gives e f = if_yes _ _ _ _ _ (and_yes _ _ e f) refl

  -- the answer of a scan in range is given as it stands
  pub asked_is : holds i w ≡ true → asked_answer (place_in w.places i).scan ≡ answer_of (place_in w.places i).scan
  unfolding asked_answer
  asked_is e = sym (if_yes _ _ _ _ _ (held_scan i w e) refl)

-- ---- a turn

-- a place after its run, over its page as the code lends it
pub turned_by : (p : Place) (bytes : List ℕ) (q : ℕ) (share : List ℕ) (o : Ran) (words : List ℕ)
    → single-call.left_by o words ≡ run_of (take (p.at + p.scan.tokenizer.job.length - p.at) (drop p.at bytes)) q p.scan share
    → Turned p.at (run_of (page_in p bytes) q p.scan share) (place_of true p.at o.scan) words
turned_by p bytes q share o words e =
    let size : p.at + p.scan.tokenizer.job.length - p.at ≡ p.scan.tokenizer.job.length = omega arith in
    let run : single-call.left_by o words ≡ run_of (page_in p bytes) q p.scan share = e ∙ rw size in
    record {
      place = ap (λ (x : single-call.Left). place_of true p.at x.scan) run;
      words = ap (λ (x : single-call.Left). x.words) run;
    }

module _ (bytes : List ℕ) (w : Worker) (events : List ℕ) where
  pub turn_length : (length events ≡ w.words → ⊥) → refusing w events ≡ turn_of bytes w events
  unfolding turn_of
  turn_length h = if_no _ _ _ _ _ (and_no _ _ (ne_eqb (length events) w.words h)) refl

  abbrev can_turn : Bool
  can_turn = eqb (length events) w.words && own_in_range w.last w.q

  pub turn_refused : can_turn ≡ false → refusing w events ≡ turn_of bytes w events
  unfolding turn_of
  turn_refused e = if_no _ _ _ _ _ (ap (λ (b : Bool). eqb (length events) w.words && b) (sym (range_of w)) ∙ e) refl

  -- what the test tells
  turn_buffer : can_turn ≡ true → length events ≡ w.words
  turn_buffer e = eqb-true (length events) w.words (both (eqb (length events) w.words) _ e).0

  pub turn_range : can_turn ≡ true → worker_in_range w ≡ true
  turn_range e = sym (range_of w) ∙ (both (eqb (length events) w.words) _ e).1

  pub turn_ring : can_turn ≡ true → w.last < 16
  turn_ring e = in_ring w (turn_range e)

  -- the parts as the code lends them, and what the run left there
  served_by : (k n : ℕ) → n ≡ share_of w.words → (p : Place) (words : List ℕ)
      → Turned (place_in w.places k).at
      (run_of (page_in (place_in w.places k) bytes) w.q (place_in w.places k).scan (take (k * n + n - k * n) (drop (k * n) events))) p words
      → left (stored w k p k) (said 36 (k ∷ [])) (take (k * n) events ++ (words ++ drop (k * n + n - k * n) (drop (k * n) events))) ≡ served_at k bytes w events
  unfolding served_at
  served_by k n en p words t =
      let sz : k * n + n - k * n ≡ n = omega arith in
      let run : ℕ → ℕ → single-call.Left = λ m l. run_of (page_in (place_in w.places k) bytes) w.q (place_in w.places k).scan (take m (drop (k * l) events)) in
      ap₂ (λ (q : Place) (ws : List ℕ). left (stored w k q k) (said 36 (k ∷ [])) (take (k * n) events ++ (ws ++ drop (k * n + n - k * n) (drop (k * n) events)))) t.place t.words
      ∙ ap₂
      (λ (m l : ℕ). left (stored w k (place_of true (place_in w.places k).at (run m l).scan) k) (said 36 (k ∷ [])) (take (k * l) events ++ ((run m l).words ++ drop m (drop (k * l) events))))
      (sz ∙ en) en

  -- the place that was sought, and what becomes of its turn
  -- with the place that was sought: what becomes of its turn
  module _ (e : length events ≡ w.words) (r : worker_in_range w ≡ true) (k : ℕ) (found : k ≡ next_in w.places w.last) where
    turn_here : (d : Left) → d ≡ turn_at k bytes w events → d ≡ turn_of bytes w events
    unfolding turn_of
    turn_here d h = if_yes _ _ _ _ _ (and_yes _ _ (eq-eqb (length events) w.words e) r) (h ∙ ap (λ (j : ℕ). turn_at j bytes w events) found)

    pub idle_here : 16 ≤ k → left w (said 37 []) events ≡ turn_of bytes w events
    unfolding turn_at
    idle_here h = turn_here _ (if_yes _ _ _ _ _ (le-leb 16 k h) refl)

    module _ (n : ℕ) (size : n ≡ share_of w.words) (h : k < 16) where
      unready_here : ready (place_in w.places k) (length bytes) n ≡ false → refusing w events ≡ turn_of bytes w events
      unfolding turn_at
      unready_here f = turn_here _ (if_no _ _ _ _ _ (lt-leb 16 k h) (if_no _ _ _ _ _ (ap (ready (place_in w.places k) (length bytes)) (sym size) ∙ f) refl))

      pub served_here : ready (place_in w.places k) (length bytes) n ≡ true → served_at k bytes w events ≡ turn_of bytes w events
      unfolding turn_at
      served_here f = turn_here _ (if_no _ _ _ _ _ (lt-leb 16 k h) (if_yes _ _ _ _ _ (ap (ready (place_in w.places k) (length bytes)) (sym size) ∙ f) refl))

  module _ (t : can_turn ≡ true) where
    pub turn_idle : sought (next_in w.places w.last) ≡ None → left w (said 37 []) events ≡ turn_of bytes w events
    turn_idle e = idle_here (turn_buffer t) (turn_range t) (next_in w.places w.last) refl (none_sought (next_in w.places w.last) e)

    module _ (k : ℕ) (e : sought (next_in w.places w.last) ≡ Some k) where
      turn_place : (next_in w.places w.last ≡ k) × (k < 16)
      turn_place = one_sought (next_in w.places w.last) k e

      pub turn_fits : (n : ℕ) → n ≡ share_of w.words → k * n + n ≤ length events
      turn_fits n size = omega (arith, turn_buffer t, part_fits k w.words n turn_place.1 size)

      module _ (n : ℕ) (size : n ≡ share_of w.words) where
        pub turn_unready : ready (place_in w.places k) (length bytes) n ≡ false → refusing w events ≡ turn_of bytes w events
        turn_unready f = unready_here (turn_buffer t) (turn_range t) k (sym turn_place.0) n size turn_place.1 f

        pub turn_served : ready (place_in w.places k) (length bytes) n ≡ true → (p : Place) (words : List ℕ)
            → Turned (place_in w.places k).at
            (run_of (page_in (place_in w.places k) bytes) w.q (place_in w.places k).scan (take (k * n + n - k * n) (drop (k * n) events))) p words
            → left (stored w k p k) (said 36 (k ∷ [])) (take (k * n) events ++ (words ++ drop (k * n + n - k * n) (drop (k * n) events))) ≡ turn_of bytes w events
        turn_served f p words d = served_by k n size p words d ∙ served_here (turn_buffer t) (turn_range t) k (sym turn_place.0) n size turn_place.1 f

-- ---- the page and the body of a place

module _ (i lent : ℕ) (w : Worker) where
  pub page_none : holds i w ≡ false → false ≡ holds_page i lent w
  unfolding holds_page
  page_none e = sym (and_no _ _ e)

  pub page_by : (r : Bool) → holds i w ≡ true → r ≡ lies_in (place_in w.places i) lent → r ≡ holds_page i lent w
  unfolding holds_page
  page_by r e f = and_also _ _ _ e f

  -- what the test tells
  pub page_place : holds_page i lent w ≡ true → i < 16
  unfolding holds_page
  page_place e = (held i w (both (holds i w) _ e).0).small

  pub page_lies : holds_page i lent w ≡ true → (place_in w.places i).at + (place_in w.places i).scan.tokenizer.job.length ≤ lent
  unfolding holds_page
  page_lies e = lies (place_in w.places i) lent (both (holds i w) _ e).1

module _ (bytes : List ℕ) (i : ℕ) (w : Worker) where
  abbrev page_of : Place
  page_of = place_in w.places i

  pub piece_held : holds_page i (length bytes) w ≡ true → piece_of bytes page_of.at page_of.scan.tokenizer.job.length ≡ page_at bytes i w
  unfolding page_at
  piece_held e =
      if_yes _ _ _ _ _ e
      (sym (if_yes _ _ _ _ _ (le-leb (page_of.at + page_of.scan.tokenizer.job.length) (length bytes) (page_lies i (length bytes) w e)) refl))

  pub piece_none : holds_page i (length bytes) w ≡ false → piece_of bytes 0 0 ≡ page_at bytes i w
  unfolding page_at
  piece_none e = if_no _ _ _ _ _ e (if_is _ (λ (l : List ℕ). l ≡ []) _ _ _ (λ y. refl) (λ y. refl))

  module _ (scratch : List ℕ) where
    pub body_none : holds_page i (length bytes) w ≡ false → refusing w scratch ≡ body_call bytes i w scratch
    unfolding body_call
    body_none e = if_no _ _ _ _ _ e refl

    pub body_read : holds_page i (length bytes) w ≡ true → (a b : Said) (out : List ℕ) (n : ℕ) → n ≡ page_of.scan.tokenizer.job.length → a ≡ b
        → collected b out ≡ collect_of (take n (drop page_of.at bytes)) page_of.scan scratch
        → left w a out ≡ body_call bytes i w scratch
    unfolding body_call
    body_read e a b out n l f c =
        if_yes _ _ _ _ _ e
        (ap (λ (x : Said). left w x out) f
        ∙ ap (λ (x : Collected). read_by x w) c
        ∙ ap (λ (m : ℕ). read_by (collect_of (take m (drop page_of.at bytes)) page_of.scan scratch) w) l)

-- ---- the share of a place

module _ (i : ℕ) (w : Worker) where
  pub start_far : 16 ≤ i → 0 ≡ start_at i w
  unfolding start_at
  start_far h = if_no _ _ _ _ _ (le-ltb i 16 h) refl

  pub start_near : i < 16 → (n : ℕ) → n ≡ share_of w.words → i * n ≡ start_at i w
  unfolding start_at
  start_near h n e = if_yes _ _ _ _ _ (lt-ltb i 16 h) (ap (λ (m : ℕ). i * m) e)

  pub start_is : i < 16 → (low : ℕ) → low ≡ start_at i w → low ≡ share_start (share_of w.words) i
  unfolding start_at
  start_is h low e = e ∙ sym (if_yes _ _ _ _ _ (lt-ltb i 16 h) refl)

  -- the share of place i lies in the buffer
  pub share_fits : i < 16 → (low n : ℕ) → low ≡ start_at i w → n ≡ share_of w.words → low + n ≤ w.words
  share_fits h low n l e =
      let f : low ≡ i * n = start_is h low l ∙ ap (λ (m : ℕ). i * m) (sym e) in
      omega (arith, part_fits i w.words n h e)

module _ (events : List ℕ) (i : ℕ) (w : Worker) where
  pub share_far : 16 ≤ i → [] ≡ share_at events i w
  unfolding share_at
  share_far h = if_no _ _ _ _ _ (and_no _ _ (le-ltb i 16 h)) refl

  pub share_length : (length events ≡ w.words → ⊥) → [] ≡ share_at events i w
  unfolding share_at
  share_length h = if_no _ _ _ _ _ (and_no' (ltb i 16) _ (ne_eqb (length events) w.words h)) refl

  pub share_near : i < 16 → length events ≡ w.words → (low n : ℕ) → low ≡ start_at i w → n ≡ share_of w.words → take (low + n - low) (drop low events) ≡ share_at events i w
  unfolding share_at
  share_near h e low n l en =
      let el = start_is i w h low l in
      let sz : low + n - low ≡ share_of w.words = omega arith in
      if_yes _ _ _ _ _ (and_yes _ _ (lt-ltb i 16 h) (eq-eqb (length events) w.words e)) (ap₂ (λ (m l : ℕ). take m (drop l events)) sz el)

  pub events_held : holds i w ≡ true → (share : List ℕ) → share ≡ share_at events i w → front_of share (place_in w.places i).scan.used ≡ events_at events i w
  unfolding events_at
  events_held e share f = if_yes _ _ _ _ _ e (ap (λ (l : List ℕ). front_of l (place_in w.places i).scan.used) f)

  pub events_none : holds i w ≡ false → [] ≡ events_at events i w
  unfolding events_at
  events_none e = if_no _ _ _ _ _ e refl
