-- A worker goes there and back, place by place, and so do its numbers.
use Prim.Native.Nat.{ℕ, zero, suc, ◌+◌, ◌≤◌, ◌<◌}
use native.Mathlib.Nat.{zero-add}
use native.Mathlib.Omega.{arith}
use native.Mathlib.Decide.{ℕ_discrete}
use mathlib.Core.Path.{◌≡◌, refl, sym, ap, ◌∙◌}
use mathlib.Core.Logic.{by_cases}
use mathlib.Core.Bool.{Bool, true, false}
use mathlib.Core.List.{List}
use lib.Dec.{leb, eqb}
use lib.ListN.{length, get_or}
use lib.Seq.{ext_get_or}
use borrow.Author.Tests.{leb-true}
use Rattle.base.specs.If.{when◌then◌else◌}
use Rattle.base.proofs.Choice.{both, and_yes}
use Rattle.worker.specs.declared.Place.{Place}
use Rattle.worker.specs.Ring.{places}
use Rattle.worker.specs.Place as worker
use Rattle.crossing.specs.declared.PlaceNumbers.{PlaceNumbers}
use Rattle.crossing.specs.Workers.{place_listed, place_in, place_out, beyond, numbers_at, each, tabled, worker_listed, worker_in, worker_out}
use Rattle.crossing.proofs.Tables.{tabled_length, tabled_at}
use Rattle.face_theorems.specs.Statement.{WorkerComesBack, WorkersNumbersComeBack}
use Rattle.face_theorems.proofs.Scans.{a_scan_comes_back, numbers_come_back}

-- ---- a place

taken_back : (t : Bool) → eqb (when t then 1 else 0) 1 ≡ t
unfolding when◌then◌else◌
taken_back true = refl
taken_back false = refl

taken_listed : (t : Bool) → leb (when t then 1 else 0) 1 ≡ true
unfolding when◌then◌else◌
taken_listed true = refl
taken_listed false = refl

place_back : (p : Place) → place_in (place_out p) ≡ p
unfolding place_in place_out
place_back p = rw (taken_back p.taken, (a_scan_comes_back p.scan).same)

place_listed_lem : (p : Place) → place_listed (place_out p) ≡ true
unfolding place_listed place_out
place_listed_lem p = and_yes _ _ (taken_listed p.taken) (a_scan_comes_back p.scan).listed

taken_out : (t : ℕ) → t ≤ 1 → (when eqb t 1 then 1 else 0) ≡ t
unfolding when◌then◌else◌
taken_out t h = by_cases (ℕ_discrete t 0) (λ (e : t ≡ 0). rw e) (λ n. let e : t ≡ 1 = omega (arith, n) in rw e)

numbers_back : (c : PlaceNumbers) → place_listed c ≡ true → place_out (place_in c) ≡ c
unfolding place_listed place_in place_out
numbers_back c h =
    let b = both _ _ h in
    rw (taken_out c.taken (leb-true c.taken 1 b.0), numbers_come_back c.scan b.1)

-- ---- all places

each_holds : (test : ℕ → Bool) (k n : ℕ) → ((i : ℕ) → k ≤ i → i < k + n → test i ≡ true) → each test k n ≡ true
unfolding each
each_holds test k zero f = refl
each_holds test k (suc n) f = and_yes _ _ (f k (omega arith) (omega arith)) (each_holds test (k + 1) n (λ i h g. f i (omega arith) (omega arith)))

each_told : (test : ℕ → Bool) (k n i : ℕ) → each test k n ≡ true → k ≤ i → i < k + n → test i ≡ true
unfolding each
each_told test k zero i e h g = absurd (omega arith)
each_told test k (suc n) i e h g =
    let b = both (test k) (each test (k + 1) n) e in
    by_cases (ℕ_discrete i k) (λ (p : i ≡ k). ap test p ∙ b.0) (λ ne. each_told test (k + 1) n i b.1 (omega (arith, ne)) (omega arith))

first_at : {A : Type 0} (f : ℕ → A) (d : A) (n i : ℕ) → i < n → get_or (tabled f 0 n) i d ≡ f i
first_at f d n i h = tabled_at f d 0 n i h ∙ ap f (zero-add i)

-- a table of what is made of each element of a list of sixteen, made back
module _ {A B : Type 0} (f : A → B) (g : B → A) (a : A) (b : B) (xs : List A) (size : length xs ≡ places) where
  abbrev there : List B
  there = tabled (λ k. f (get_or xs k a)) 0 places

  at : (i : ℕ) → i < places → get_or there i b ≡ f (get_or xs i a)
  at i h = first_at (λ k. f (get_or xs k a)) b places i h

  pub table_back : ((i : ℕ) → i < places → g (f (get_or xs i a)) ≡ get_or xs i a) → tabled (λ k. g (get_or there k b)) 0 places ≡ xs
  table_back same =
      ext_get_or a (tabled (λ k. g (get_or there k b)) 0 places) xs (tabled_length (λ k. g (get_or there k b)) 0 places ∙ sym size)
      (λ i h.
      let l : i < places = omega (arith, tabled_length (λ k. g (get_or there k b)) 0 places) in
      first_at (λ k. g (get_or there k b)) a places i l ∙ ap g (at i l) ∙ same i l)

-- ---- a worker

pub a_worker_comes_back : WorkerComesBack
unfolding worker_listed worker_in worker_out
a_worker_comes_back w size =
    record {
      listed = each_holds _ 0 places
          (λ i l h. ap place_listed (at place_out place_in worker.beyond beyond w.places size i h) ∙ place_listed_lem (worker.place_in w.places i));
      same = rw (table_back place_out place_in worker.beyond beyond w.places size (λ i h. place_back (worker.place_in w.places i)));
    }

pub a_workers_numbers_come_back : WorkersNumbersComeBack
unfolding worker_listed worker_in worker_out
a_workers_numbers_come_back c size h =
    rw (table_back place_in place_out beyond worker.beyond c.places size
    (λ i l. numbers_back (numbers_at c.places i) (each_told (λ k. place_listed (numbers_at c.places k)) 0 places i h (omega arith) l)))
