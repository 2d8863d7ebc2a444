-- Every state of an ESM block is paid for. A byte that is eaten pays for the steps at the next byte and for the look-ahead that passed it.
use Prim.Native.Nat.{ℕ, ◌+◌, ◌-◌, ◌≤◌, ◌<◌}
use mathlib.Core.Path.{◌≡◌, refl, ap, ◌∙◌}
use mathlib.Core.Bool.{Bool, true, false}
use mathlib.Core.List.{List}
use native.Mathlib.Omega.{arith}
use lib.ListN.{length}
use lib.Dec.{eqb}
use borrow.Author.Tests.{eqb-true}
use Rattle.base.specs.If.{among}
use Rattle.base.proofs.Choice.{both}
use Rattle.base.specs.Page.{byte_at}
use Rattle.base.specs.Byte.{line_feed, space, end_of_page}
use Rattle.base.specs.State as state
use Rattle.base.specs.Decide.{eat}
use Rattle.base.specs.declared.Marks.{Marks}
use Rattle.base.specs.declared.Move.{Move}
use Rattle.base.specs.declared.Verdict.{Verdict}
use Rattle.base.specs.declared.Verdict.TheVariants.{Fine, Unfinished, Wrong}
use Rattle.char_class.specs.Class.{is_space_or_tab}
use Rattle.mdx_esm.specs.Esm as esm
use Rattle.tokenizer.specs.Ranges as range
use Rattle.tokenizer.specs.declared.Regs.{Regs}
use Rattle.scan_theorems.proofs.There.{byte_there, space_there, letter_there, word_there, line_there}
use Rattle.scan_theorems.proofs.Blanks.{blanks, blanks_fit, blanks_more, blanks_none}
use Rattle.body_places.proofs.Place.{place_in_lem}
use Rattle.scan_theorems.proofs.Price.{Prices, price}
use Rattle.scan_theorems.proofs.Due.{ahead, ahead_step, passing, passing_more, passing_fits, again, again_fit, again_none, again_step, judging, looking}
use Rattle.scan_theorems.proofs.Ahead.{elsewhere}
use Rattle.scan_theorems.proofs.EsmFalls.{EsmFalls, word_due, inside_due, line_due, before_due, blank_due, end_due, asking_due, goes_on_due, pick, ends, eats, goes}

-- a byte that is another than a space or a tab
not_space : (b k : ℕ) → eqb b k ≡ true → is_space_or_tab k ≡ false → is_space_or_tab b ≡ false
not_space b k e h = rw (eqb-true b k e) h

end_none : (b : ℕ) → eqb b end_of_page ≡ true → is_space_or_tab b ≡ false
unfolding is_space_or_tab among
end_none b e = not_space b end_of_page e refl

line_none : (b : ℕ) → eqb b line_feed ≡ true → is_space_or_tab b ≡ false
unfolding is_space_or_tab among
line_none b e = not_space b line_feed e refl

module _ (p : Prices) (page : List ℕ) (construct n at : ℕ) (r : Regs) (c : eqb construct range.esm ≡ true) (size : length page ≡ n) where
  abbrev b : ℕ
  b = byte_at page at

  abbrev Falls : ℕ → Move → Type 0
  Falls k m = EsmFalls p page construct n at r k m

  -- the look-ahead over what follows is paid for
  behind : again p page (at + 1) ≤ ahead p page at
  unfolding again
  behind = passing_fits p page (blanks page (at + 1)) at (omega (arith, blanks_fit page (at + 1)))

  -- a byte of the word is eaten
  to_word : {k : ℕ} {marks : Marks} → at < length page → ahead p page at + price p marks ≤ k → Falls k (eat state.mdx_esm_word marks)
  to_word l h = eats c size refl l (omega (arith, p, ahead_step p page at l, word_due p page (at + 1) r.saved)) (elsewhere refl)

  -- a byte of a line is eaten: less is due by the look-ahead over what follows it
  to_inside : {k : ℕ} {marks : Marks} → at < length page → ahead p page (at + 1) + (p.one + (p.none + looking p page)) + price p marks ≤ k + again p page (at + 1) → Falls k (eat state.mdx_esm_inside marks)
  to_inside l h = eats c size refl l (omega (arith, inside_due p page (at + 1) r.saved, again_fit p page (at + 1))) (elsewhere refl)

  pub start_falls : (allowed : Bool) → Falls (ahead p page at + p.two) (esm.start b allowed)
  start_falls allowed =
      pick (λ e. to_word (place_in_lem page at (letter_there b (both allowed _ e).1)) (omega arith)) (λ e. ends refl (omega (arith, p)))

  pub word_falls : (is_word : Bool) → Falls (ahead p page at + p.none) (esm.word b is_word)
  word_falls is_word =
      pick (λ e. to_word (place_in_lem page at (word_there b e)) (omega arith))
      (λ e. pick
      (λ f. let l = place_in_lem page at (byte_there b space (both is_word _ f).1 refl) in
      to_inside l (omega (arith, p, ahead_step p page at l)))
      (λ f. ends refl (omega arith)))

  pub inside_falls : Falls (ahead p page at + (p.one + (p.none + looking p page)) - again p page at) (esm.inside b)
  inside_falls =
      let fit = again_fit p page at in
      pick (λ e. goes at r.saved c refl refl refl (omega (arith, line_due p page at r.saved)) (elsewhere refl))
      (λ e. let l = place_in_lem page at (line_there b e) in
      to_inside l (omega (arith, p, ahead_step p page at l, again_step p page at l)))

  pub line_falls : Falls (ahead p page at + (p.none + looking p page) - again p page at) (esm.line_start b)
  line_falls =
      let fit = again_fit p page at in
      pick
      (λ e. goes at r.saved c refl refl refl (omega (arith, end_due p page at r.saved, again_none p page at (end_none b e), again_fit p page (at + 1))) (elsewhere refl))
      (λ e. let l = place_in_lem page at e in
      pick
      (λ f.
      goes at at c refl refl refl (omega (arith, before_due p page at at, again_none p page at (line_none b f)))
      (record {
        goes_on = λ k. absurd (omega arith);
        begins = λ k. (l, refl);
        passes = λ k. absurd (omega arith);
      }))
      (λ f. to_inside l (omega (arith, p, ahead_step p page at l, again_step p page at l))))

  pub goes_on_falls : at < length page → Falls (ahead p page at + p.two - again p page (at + 1)) esm.continuation_start
  goes_on_falls l = eats c size refl l (omega (arith, p, ahead_step p page at l, line_due p page (at + 1) r.saved, again_fit p page (at + 1))) (elsewhere refl)

  -- the look-ahead begins behind the line ending, and has passed nothing
  pub before_falls : at < length page → r.saved ≡ at → Falls (ahead p page at + looking p page) esm.blank_line_before
  before_falls l e =
      let one : at + 1 - at ≡ 0 + 1 = omega arith in
      eats c size refl l (rw e (omega (arith, blank_due p page (at + 1) at, ap (passing p page) one, passing_more p page 0)))
      (record {
        goes_on = λ k. absurd (omega arith);
        begins = λ k. absurd (omega arith);
        passes = λ k. (omega arith, rw e refl);
      })

  -- where it ends it has passed the spaces and tabs that follow the line ending
  passed_all : (s : ℕ) → at - s ≡ blanks page (s + 1) + 1 → passing p page (at - s) ≡ again p page (s + 1) + p.none
  unfolding again
  passed_all s e = ap (passing p page) e ∙ passing_more p page (blanks page (s + 1))

  -- it passes one more, or goes back with as much less due as the spaces and tabs that it has passed
  pub blank_falls : at ≤ length page → r.saved < at → blanks page (r.saved + 1) + (r.saved + 1) ≡ blanks page at + at → Falls (ahead p page r.saved + looking p page - passing p page (at - r.saved)) (esm.blank_line b)
  blank_falls w l h =
      let s = r.saved in
      pick
      (λ e. let q = place_in_lem page at (space_there b e) in
      let more : at + 1 - s ≡ at - s + 1 = omega arith in
      eats c size refl q (omega (arith, blank_due p page (at + 1) s, ap (passing p page) more, passing_more p page (at - s), passing_fits p page (at + 1 - s) s (omega arith)))
      (record {
        goes_on = λ k. absurd (omega arith);
        begins = λ k. absurd (omega arith);
        passes = λ k. (omega arith, omega (arith, blanks_more page at e q));
      }))
      (λ e. let all : at - s ≡ blanks page (s + 1) + 1 = omega (arith, blanks_none page at e) in
      let passed = passed_all s all in
      let fit = again_fit p page (s + 1) in
      let near = ahead_step p page s (omega arith) in
      pick (λ f. goes s s c refl refl refl (omega (arith, p, end_due p page s s)) (elsewhere refl))
      (λ f.
      goes s s c refl refl refl (omega (arith, p, goes_on_due p page s s))
      (record {
        goes_on = λ k. omega arith;
        begins = λ k. absurd (omega arith);
        passes = λ k. absurd (omega arith);
      })))

  pub end_falls : Falls (ahead p page at + (p.none + judging p page) - again p page (at + 1)) esm.at_end
  end_falls = goes at r.saved c refl refl refl (omega (arith, asking_due p page at r.saved, behind)) (elsewhere refl)

  pub verdict_falls : (v : Verdict) (after : Bool) (place : ℕ) → Falls (ahead p page at + judging p page - again p page (at + 1)) (esm.verdict v b after place)
  verdict_falls Fine after place =
      let fit = behind in
      pick (λ e. ends refl (omega (arith, p))) (λ e. ends refl (omega (arith, p)))
  verdict_falls (Unfinished k) after place =
      let fit = behind in
      pick (λ e. ends refl (omega (arith, p)))
      (λ e.
      goes at r.saved c refl refl refl (omega (arith, goes_on_due p page at r.saved))
      (record {
        goes_on = λ k. place_in_lem page at e;
        begins = λ k. absurd (omega arith);
        passes = λ k. absurd (omega arith);
      }))
  verdict_falls (Wrong k offset) after place = ends refl (omega (arith, behind))
