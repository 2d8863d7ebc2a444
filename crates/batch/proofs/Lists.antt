-- A list that is gone over, record by record: what is filled so far, and what the rest comes to, is what the whole list comes to.
use Prim.Native.Nat.{ℕ, ◌+◌, ◌<◌, ◌≤◌}
use native.Mathlib.Omega.{arith}
use mathlib.Core.Path.{◌≡◌, refl, sym, ap, ap₂, ◌∙◌}
use mathlib.Core.Bool.{true, false, ◌&&◌}
use mathlib.Core.List.{List, [], ◌∷◌, ◌++◌}
use lib.Dec.{eqb, ltb}
use lib.ListN.{length, get_or, set, take, drop, length-set, drop_of_length-le}
use lib.Seq.{take_all}
use Rattle.std.proofs.Common.{append_assoc, append-nil}
use Rattle.std.proofs.lemmas.List.{take-append-drop, take-set, take_more, take_more_set, drop-set, drop-set-lt, drop_more}
use Rattle.std.proofs.lemmas.List.Sums.{fold-append}
use Rattle.std.specs.List.{list_all, fold}
use Rattle.base.specs.If.{when◌then◌else◌}
use Rattle.base.specs.State.{done, full}
use Rattle.base.specs.Number.{bad_call}
use Rattle.base.proofs.Choice.{if_yes, if_no}
use Rattle.batch.specs.declared.Opening.{Opening}
use Rattle.batch.specs.declared.turns.Run.{Run}
use Rattle.batch.specs.Batch.{counting, all_counting, Batch, batch, answered, record_of, words_of, fill_from, batch_of}
use Rattle.batch.specs.Inner.{Sound}

-- ---- what a list may ask for

pub all_is : (os : List Opening) → list_all counting os ≡ all_counting os
unfolding all_counting
all_is [] = refl
all_is (o ∷ os) = ap (λ (b : _). counting o && b) (all_is os)

pub all_refused : (os : List Opening) (words page : List ℕ) → all_counting os ≡ false → batch (answered bad_call 0 0) os words ≡ batch_of page os words
unfolding batch_of
all_refused os words page e = if_no _ _ _ _ _ e refl

-- ---- the records that are filled so far stand in front

abbrev in_front : List Opening → Batch → Batch
in_front front b = batch b.filled (front ++ b.openings) b.words

-- the start from which lines are counted on behind one record more, and behind some from the first on: the last that is in the page
abbrev counted_on : List ℕ → ℕ → Opening → ℕ
counted_on page from o = when ltb (length page) o.start then from else o.start

abbrev last_counted : List ℕ → List Opening → ℕ
last_counted page os = fold (counted_on page) 0 os

-- n records are filled, and so many events written
pub record Filling (page : List ℕ) (os : List Opening) (words : List ℕ) (n : ℕ) (now : List Opening) (after : List ℕ) (r : Run) : Type 0 where
  pub sound : Sound page after r
  pub long : length now ≡ length os
  pub left : drop n now ≡ drop n os
  pub counted : r.from ≡ last_counted page (take n os)
  pub goal : in_front (take n now) (fill_from page n r.used (drop n os) after) ≡ batch_of page os words

module _ (page : List ℕ) (os : List Opening) (words : List ℕ) where
  pub start_filling : (r : Run) → all_counting os ≡ true → r.used ≡ 0 → r.from ≡ 0 → Sound page words r → Filling page os words 0 os words r
  unfolding batch_of
  start_filling r e u v h = record {
    sound = h;
    long = refl;
    left = refl;
    counted = v;
    goal = rw u (if_yes _ _ _ _ _ e refl);
  }

  -- where it ends
  pub filled_all : (n : ℕ) (now : List Opening) (after : List ℕ) (r : Run) → Filling page os words n now after r → length os ≤ n → n ≤ length os
      → batch (answered done (length now) r.used) now after ≡ batch_of page os words
  unfolding fill_from
  filled_all n now after r h e l =
      let none : drop n os ≡ [] = drop_of_length-le os {i = n} e in
      let whole : take n now ≡ now = take_all n now (omega (arith, h.long)) in
      let count : length now ≡ n = omega (arith, h.long) in
      rw count (rw (none, whole, append-nil now) at h.goal)

  -- one record more
  module _ (n : ℕ) (now : List Opening) (after : List ℕ) (r : Run) (h : Filling page os words n now after r) (less : n < length os) (d : Opening) where
    abbrev asked : Opening
    asked = get_or now n d

    abbrev record_now : Opening
    record_now = record_of page asked r.used after

    abbrev words_now : List ℕ
    words_now = words_of page asked r.used after

    here : n < length now
    here = omega (arith, h.long)

    parts : asked ∷ drop (n + 1) now ≡ get_or os n d ∷ drop (n + 1) os
    parts = sym (drop_more now n d here) ∙ h.left ∙ drop_more os n d less

    behind_is : drop (n + 1) now ≡ drop (n + 1) os
    behind_is = let p = parts in cc

    rest : drop n os ≡ asked ∷ drop (n + 1) os
    rest = sym h.left ∙ drop_more now n d here ∙ ap (λ (x : List Opening). asked ∷ x) behind_is

    counted_more : counted_on page r.from asked ≡ last_counted page (take (n + 1) os)
    counted_more =
        let p = parts in
        let asked_is : asked ≡ get_or os n d = cc in
        ap₂ (counted_on page) h.counted asked_is ∙ sym (fold-append (counted_on page) 0 (take n os) (get_or os n d ∷ []))
        ∙ ap (last_counted page) (sym (take_more os n d less))

    set_is : (f : Opening) → set now n f ≡ take n now ++ (f ∷ drop (n + 1) os)
    set_is f =
        sym (take-append-drop n (set now n f)) ∙ ap₂ (λ (x y : List Opening). x ++ y) (take-set now n f) (drop-set now n f here ∙ ap (λ (x : List Opening). f ∷ x) behind_is)

    on : eqb record_now.answer full ≡ false
        → in_front (take (n + 1) (set now n record_now)) (fill_from page (n + 1) (r.used + record_now.events) (drop (n + 1) os) words_now) ≡ batch_of page os words
    unfolding fill_from when◌then◌else◌
    on e = rw (take_more_set now n record_now here, append_assoc) (rw (rest, e) at h.goal)

    ends : eqb record_now.answer full ≡ true → batch (answered full (n + 1) (r.used + record_now.events)) (set now n record_now) words_now ≡ batch_of page os words
    unfolding fill_from when◌then◌else◌
    ends e = rw (set_is record_now) (rw (rest, e) at h.goal)

    -- as the code has it
    module _ (f : Opening) (zs : List ℕ) (next : Run) (f_is : f ≡ record_now) (zs_is : zs ≡ words_now) (u : next.used ≡ r.used + f.events) where
      pub filled_more : next.from ≡ counted_on page r.from asked → Sound page zs next → false ≡ eqb f.answer full
          → Filling page os words (n + 1) (set now n f) zs next
      filled_more v sound e = record {
        sound = sound;
        long = length-set now n f ∙ h.long;
        left = drop-set-lt (n + 1) now n f (omega arith) ∙ behind_is;
        counted = v ∙ counted_more;
        goal = rw (u, f_is, zs_is) (on (sym (e ∙ ap (λ (x : Opening). eqb x.answer full) f_is)));
      }

      pub filled_last : true ≡ eqb f.answer full → batch (answered full (n + 1) next.used) (set now n f) zs ≡ batch_of page os words
      filled_last e = rw (u, f_is, zs_is) (ends (sym (e ∙ ap (λ (x : Opening). eqb x.answer full) f_is)))
