-- A list's records are answered in order, each by 0 to 7 or 10; and a list that is refused is as it was.
use Prim.Native.Nat.{ℕ, ◌+◌, ◌-◌, ◌*◌, ◌%◌}
use mathlib.Core.Path.{◌≡◌, refl}
use mathlib.Core.Bool.{true, false}
use mathlib.Core.List.{List, [], ◌∷◌}
use lib.Dec.{eqb}
use lib.ListN.{length, drop}
use borrow.Author.Tests.{eq-eqb, ne_eqb}
use Rattle.base.specs.If.{when◌then◌else◌}
use Rattle.base.specs.State.{full}
use Rattle.base.proofs.Choice.{case, both}
use Rattle.events.specs.Words.{width}
use Rattle.tokenizer.specs.Ranges.{esm}
use Rattle.scan.specs.Call.{numbers_listed}
use Rattle.scan_theorems.proofs.Tests.{clash}
use Rattle.scan_theorems.proofs.Counting.{a_single_scan_without_verdicts_ends}
use Rattle.batch.specs.declared.Opening.{Opening}
use Rattle.batch.specs.Record.{filled_of}
use Rattle.batch.specs.Batch.{counting, all_counting, record_of, words_of, fill_from, batch_of}
use Rattle.batch_theorems.specs.Statement.{Answered, InOrder, EveryRecord, RefusedList}

-- what a record that can be taken names
record Counted (o : Opening) : Type 0 where
  listed : numbers_listed o.construct o.kind o.flags ≡ true
  unasked : eqb (o.flags % 2) 1 ≡ false

counted : (o : Opening) → counting o ≡ true → Counted o
unfolding counting when◌then◌else◌
counted o h =
    case _ (eqb o.construct esm) (λ e. clash false (rw e at h) refl)
    (λ e. case _ (eqb (o.flags % 2) 1) (λ u. clash false (rw (e, u) at h) refl) (λ u. record { listed = rw (e, u) at h; unasked = u }))

module _ (page : List ℕ) where
  pub record_answered : (o : Opening) (used : ℕ) (words : List ℕ) → counting o ≡ true → Answered o (record_of page o used words)
  unfolding filled_of
  record_answered o used words h =
      let c = counted o h in
      record {
        start = refl;
        construct = refl;
        kind = refl;
        flags = refl;
        answer = a_single_scan_without_verdicts_ends page 0 (length page) o.start o.construct o.kind o.flags (8 * (length page - o.start + 1)) (drop (used * width) words) c.listed c.unasked refl;
      }

  in_order : (records used : ℕ) (os : List Opening) (words : List ℕ) → all_counting os ≡ true → InOrder os (fill_from page records used os words).openings
  unfolding fill_from all_counting when◌then◌else◌
  in_order records used [] words h = refl
  in_order records used (o ∷ os) words h =
      let b = both (counting o) (all_counting os) h in
      let f = record_of page o used words in (
        record_answered o used words b.0,
        (λ e. rw (eq-eqb f.answer full e)),
        (λ n. rw (ne_eqb f.answer full n) (in_order (records + 1) (used + f.events) os (words_of page o used words) b.1)),
      )

pub every_record_is_answered : EveryRecord
unfolding batch_of when◌then◌else◌
every_record_is_answered page os words h = rw h (in_order page 0 0 os words h)

pub a_refused_list_is_untouched : RefusedList
unfolding batch_of when◌then◌else◌
a_refused_list_is_untouched page os words h = rw h
