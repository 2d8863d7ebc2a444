-- When a page gets each of its four answers, both ways (docs/SCOPE.md, the answer table, rows 2, 3 and 4):
--     long_is     TooLong: the page is longer than the limit
--     start_is    BadStart: it is not, and the start is past its end, or it does not lie inside the lent bytes
--     text_is     BadText, with the offset o and its line and column: it is admitted, and o is the first fault of its text
--     admits_is   Ok, with the line of the start: it is admitted, and its text is good
use Prim.Native.Nat.{ℕ, ◌+◌, ◌≤◌, ◌<◌}
use native.Mathlib.Omega.{arith}
use mathlib.Core.Path.{◌≡◌, refl, sym, ap, ◌∙◌}
use mathlib.Core.Logic.{◌⊎◌, ◌↔◌, ⊎_elim, inl, inr}
use mathlib.Core.List.{List}
use borrow.Author.Tests.{ltb-true, ltb-false, leb-true, leb-false}
use lib.Dec.{ltb}
use lib.ListN.{length}
use Rattle.std.specs.Prelude.{Result, Ok, Err}
use Rattle.base.specs.If.{when◌then◌else◌}
use Rattle.base.proofs.Choice.{if_is}
use Rattle.page.specs.declared.line.Line.{Line}
use Rattle.page.specs.declared.line.Spot.{Spot}
use Rattle.page.specs.declared.Fault.{Fault}
use Rattle.page.specs.declared.Fault.TheVariants.{TooLong, BadStart, BadText}
use Rattle.page.specs.Line.{spot_at, line_at}
use Rattle.page.specs.Text.{Reading, good, fault, read_text, GoodText, FirstFault}
use Rattle.base.specs.Page.{page_limit}
use Rattle.page.specs.Page.{lies_inside, page_of, Admitted, checked_by, page_check}
use Rattle.page.proofs.Meaning.{good_is, bad_is}

module _ (bytes : List ℕ) (at n start : ℕ) where
  -- what a page is refused for before its text is read
  abbrev pub Misplaced : Type 0
  Misplaced = (n ≤ page_limit) × ((n < start) ⊎ (length bytes < at + n))

  abbrev page : List ℕ
  page = page_of bytes at n

  -- what is answered of a page whose text is read
  abbrev read : Result Line Fault
  read = checked_by page start (read_text page)

  -- what holds of each answer where it is given holds of the answer
  by_answers : (P : Result Line Fault → Type 0) → (page_limit < n → P (Err TooLong)) → (Misplaced → P (Err BadStart)) →
      (Admitted bytes at n start → P read) → P (page_check bytes at n start)
  by_answers P long misplaced admitted =
      if_is (Result Line Fault) P (ltb page_limit n) (Err TooLong)
      (when ltb n start then Err BadStart else when lies_inside (length bytes) at n then read else Err BadStart)
      (λ e. long (ltb-true page_limit n e))
      (λ e.
      let short = ltb-false page_limit n e in
      if_is (Result Line Fault) P (ltb n start) (Err BadStart) (when lies_inside (length bytes) at n then read else Err BadStart)
      (λ s. misplaced (short, inl (ltb-true n start s)))
      (λ s.
      if_is (Result Line Fault) P (lies_inside (length bytes) at n) read (Err BadStart)
      (λ l. admitted (record { short = short; starts = ltb-false n start s; lies = leb-true (at + n) (length bytes) l }))
      (λ l. misplaced (short, inr (leb-false (at + n) (length bytes) l)))))

  placed : Misplaced → Admitted bytes at n start → ⊥
  placed m a = ⊎_elim (λ h. let s = a.starts in omega arith) (λ h. let s = a.lies in omega arith) m.1

  pub long_is : (page_check bytes at n start ≡ Err TooLong) ↔ (page_limit < n)
  long_is = (
    by_answers (λ (x : Result Line Fault). x ≡ Err TooLong → page_limit < n) (λ h e. h) (λ m e. let z : ◌≡◌ {A = ℕ} 0 1 = cc in absurd (omega arith))
        (λ a e. absurd (not_long (read_text page) e)),
    λ h. by_answers (λ (x : Result Line Fault). x ≡ Err TooLong) (λ l. refl) (λ m. let s = m.0 in absurd (omega arith)) (λ a. let s = a.short in absurd (omega arith)),
  )
    where
      not_long : (r : Reading) → checked_by page start r ≡ Err TooLong → ⊥
      not_long good e = let z : ◌≡◌ {A = ℕ} 0 1 = cc in omega arith
      not_long (fault o) e = let z : ◌≡◌ {A = ℕ} 0 1 = cc in omega arith

  pub start_is : (page_check bytes at n start ≡ Err BadStart) ↔ Misplaced
  start_is = (
    by_answers (λ (x : Result Line Fault). x ≡ Err BadStart → Misplaced) (λ h e. let z : ◌≡◌ {A = ℕ} 0 1 = cc in absurd (omega arith)) (λ m e. m)
        (λ a e. absurd (not_start (read_text page) e)),
    λ m. by_answers (λ (x : Result Line Fault). x ≡ Err BadStart) (λ l. let s = m.0 in absurd (omega arith)) (λ h. refl) (λ a. absurd (placed m a)),
  )
    where
      not_start : (r : Reading) → checked_by page start r ≡ Err BadStart → ⊥
      not_start good e = let z : ◌≡◌ {A = ℕ} 0 1 = cc in omega arith
      not_start (fault o) e = let z : ◌≡◌ {A = ℕ} 0 1 = cc in omega arith

  -- the fault and its place
  abbrev at_fault : ℕ → Result Line Fault
  at_fault o = Err (BadText (spot_at page o))

  pub text_is : (o : ℕ) → (page_check bytes at n start ≡ at_fault o) ↔ (Admitted bytes at n start × FirstFault page o)
  text_is o = (
    by_answers (λ (x : Result Line Fault). x ≡ at_fault o → Admitted bytes at n start × FirstFault page o)
        (λ h e. let z : ◌≡◌ {A = ℕ} 0 1 = cc in absurd (omega arith))
        (λ m e. let z : ◌≡◌ {A = ℕ} 0 1 = cc in absurd (omega arith))
        (λ a e. (a, (bad_is page o).0 (faults (read_text page) e))),
    λ f. by_answers (λ (x : Result Line Fault). x ≡ at_fault o) (λ l. let s = f.0.short in absurd (omega arith)) (λ m. absurd (placed m f.0))
        (λ a. ap (checked_by page start) ((bad_is page o).1 f.1)),
  )
    where
      faults : (r : Reading) → checked_by page start r ≡ at_fault o → r ≡ fault o
      faults good e = let z : ◌≡◌ {A = ℕ} 0 1 = cc in absurd (omega arith)
      faults (fault p) e = let z : spot_at page p ≡ spot_at page o = cc in ap (λ (x : Spot). fault x.place) z

  pub admits_is : (page_check bytes at n start ≡ Ok (line_at page start)) ↔ (Admitted bytes at n start × GoodText page)
  admits_is = (
    by_answers (λ (x : Result Line Fault). x ≡ Ok (line_at page start) → Admitted bytes at n start × GoodText page)
        (λ h e. let z : ◌≡◌ {A = ℕ} 0 1 = cc in absurd (omega arith))
        (λ m e. let z : ◌≡◌ {A = ℕ} 0 1 = cc in absurd (omega arith))
        (λ a e. (a, (good_is page).0 (goods (read_text page) e))),
    λ g. by_answers (λ (x : Result Line Fault). x ≡ Ok (line_at page start)) (λ l. let s = g.0.short in absurd (omega arith)) (λ m. absurd (placed m g.0))
        (λ a. ap (checked_by page start) ((good_is page).1 g.1)),
  )
    where
      goods : (r : Reading) → checked_by page start r ≡ Ok (line_at page start) → r ≡ good
      goods good e = refl
      goods (fault p) e = let z : ◌≡◌ {A = ℕ} 0 1 = cc in absurd (omega arith)

  -- no other line is ever answered
  pub good_line : (line : Line) → page_check bytes at n start ≡ Ok line → (line ≡ line_at page start) × Admitted bytes at n start
  good_line line =
      by_answers (λ (x : Result Line Fault). x ≡ Ok line → (line ≡ line_at page start) × Admitted bytes at n start)
      (λ h e. let z : ◌≡◌ {A = ℕ} 0 1 = cc in absurd (omega arith))
      (λ m e. let z : ◌≡◌ {A = ℕ} 0 1 = cc in absurd (omega arith))
      (λ a e. (goods (read_text page) e, a))
    where
      goods : (r : Reading) → checked_by page start r ≡ Ok line → line ≡ line_at page start
      goods good e = cc
      goods (fault p) e = let z : ◌≡◌ {A = ℕ} 0 1 = cc in absurd (omega arith)

  -- and no other spot: a spot that is answered has the line and the column of its place
  pub fault_spot : (p : Spot) → page_check bytes at n start ≡ Err (BadText p) → (p ≡ spot_at page p.place) × Admitted bytes at n start
  fault_spot p =
      by_answers (λ (x : Result Line Fault). x ≡ Err (BadText p) → (p ≡ spot_at page p.place) × Admitted bytes at n start)
      (λ h e. let z : ◌≡◌ {A = ℕ} 0 1 = cc in absurd (omega arith))
      (λ m e. let z : ◌≡◌ {A = ℕ} 0 1 = cc in absurd (omega arith))
      (λ a e. (faults (read_text page) e, a))
    where
      faults : (r : Reading) → checked_by page start r ≡ Err (BadText p) → p ≡ spot_at page p.place
      faults good e = let z : ◌≡◌ {A = ℕ} 0 1 = cc in absurd (omega arith)
      faults (fault o) e = let z : spot_at page o ≡ p = cc in sym z ∙ ap (λ (k : ℕ). spot_at page k) (ap (λ (y : Spot). y.place) z)
