-- The check of a page for another start, from that for one that is no further than the page's end: what the two answers share.
use Prim.Native.Nat.{ℕ, ◌≤◌}
use native.Mathlib.Omega.{arith}
use mathlib.Core.Path.{◌≡◌, sym, ap, ◌∙◌}
use mathlib.Core.Logic.{⊎_elim, inr}
use mathlib.Core.List.{List}
use Rattle.std.specs.Prelude.{Result, Ok, Err}
use Rattle.page.specs.declared.line.Line.{Line}
use Rattle.page.specs.declared.line.Spot.{Spot}
use Rattle.page.specs.declared.Fault.{Fault}
use Rattle.page.specs.declared.Fault.TheVariants.{TooLong, BadStart, BadText}
use Rattle.page.specs.Line.{line_at}
use Rattle.base.specs.Page.{page_limit}
use Rattle.page.specs.Page.{page_of, Admitted, page_check}
use Rattle.page.proofs.Answers.{long_is, start_is, text_is, admits_is, good_line, fault_spot}

module _ (bytes : List ℕ) (at n from start : ℕ) (x : Result Line Fault) (known : x ≡ page_check bytes at n from) where
  abbrev again : Result Line Fault
  again = page_check bytes at n start

  -- it was not the start that was at fault, but the page
  misplaced_again : x ≡ Err BadStart → from ≤ n → Err BadStart ≡ again
  misplaced_again e in_page =
      let m = (start_is bytes at n from).0 (sym known ∙ e) in
      sym ((start_is bytes at n start).1 (m.0, ⊎_elim (λ h. absurd (omega arith)) (λ h. inr h) m.1))

  bad_text : Spot → Result Line Fault
  bad_text p = Err (BadText p)

  -- the text is at fault at the same place
  text_again : (p : Spot) → x ≡ bad_text p → start ≤ n → bad_text p ≡ again
  unfolding bad_text
  text_again p e h =
      let spot = fault_spot bytes at n from p (sym known ∙ e) in
      let found = (text_is bytes at n from p.place).0 (sym known ∙ e ∙ ap bad_text spot.0) in
      let admitted : Admitted bytes at n start = record { short = found.0.short; starts = h; lies = found.0.lies } in
      ap bad_text spot.0 ∙ sym ((text_is bytes at n start p.place).1 (admitted, found.1))

  -- a refusal of a page that is not too long, for a start that is not past its end, stays what it was
  pub refused_again : (f : Fault) → x ≡ Err f → n ≤ page_limit → from ≤ n → start ≤ n → Err f ≡ again
  unfolding bad_text
  refused_again TooLong e short in_page h = let long = (long_is bytes at n from).0 (sym known ∙ e) in absurd (omega arith)
  refused_again BadStart e short in_page h = misplaced_again e in_page
  refused_again (BadText p) e short in_page h = text_again p e h

  module _ (line : Line) (e : x ≡ Ok line) where
    pub was_good : (line ≡ line_at (page_of bytes at n) from) × Admitted bytes at n from
    was_good = good_line bytes at n from line (sym known ∙ e)

    pub good_again : start ≤ n → Ok (line_at (page_of bytes at n) start) ≡ again
    good_again h =
        let read = (admits_is bytes at n from).0 (sym known ∙ e ∙ ap Ok was_good.0) in
        let admitted : Admitted bytes at n start = record { short = read.0.short; starts = h; lies = read.0.lies } in
        sym ((admits_is bytes at n start).1 (admitted, read.1))
