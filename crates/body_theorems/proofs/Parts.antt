-- What is read after a call that is not refused is the body.
use Prim.Native.Nat.{ℕ, zero, suc, ◌+◌, ◌-◌, ◌≤◌}
use native.Mathlib.Omega.{arith}
use native.Mathlib.Numerals.{add-one}
use mathlib.Core.Path.{◌≡◌, refl, sym, ap, ◌∙◌}
use mathlib.Core.Bool.{true, false}
use mathlib.Core.List.{List, [], ◌∷◌}
use lib.Dec.{leb}
use lib.ListN.{length, get_or}
use lib.Seq.{sets, sets-eq, drop-cons, take-append_seam, length-sets}
use borrow.Author.Tests.{le-leb, leb-true}
use Rattle.base.specs.If.{when◌then◌else◌}
use Rattle.base.proofs.Choice.{if_yes, if_no, if_is, both}
use Rattle.base.specs.Number as number
use Rattle.body_places.specs.Body.{Cell, bytes_of, expression_cells, bytes_from, part_cells}
use Rattle.page.specs.Page.{page_of}
use Rattle.tokenizer.specs.Ranges.{in_range}
use Rattle.scan.specs.declared.Scan.{Scan}
use Rattle.scan.specs.Answer.{said, refused}
use Rattle.scan.specs.Call.{scan_in_range}
use Rattle.body_places.proofs.Place.{byte_in}
use Rattle.scan_theorems.proofs.Tests.{clash}
use Rattle.scan_theorems.proofs.Parts.{parts}
use Rattle.scan_theorems.proofs.Fresh.{start_within}
use Rattle.std.specs.Prelude.{Option, Some, None}
use Rattle.mdx_collect.specs.declared.Body.{Body}
use Rattle.mdx_collect.specs.declared.Body.TheVariants.{InPage, InScratch}
use Rattle.mdx_collect.specs.Collect.{first, seam, unbroken, body_cells, body_of, asked, Collected, collected, collected_by, handed_over, collect_of, piece_of, part_of, PartIsBody}
use Rattle.mdx_collect.proofs.Calls.{Asks, asks}
use Rattle.mdx_collect.proofs.Laws.{bytes_at, bytes_long}

-- a part of the page is its bytes
bytes_there : (page : List ℕ) (n at : ℕ) → at + n ≤ length page → page_of page at n ≡ bytes_from page at n
unfolding bytes_from
bytes_there page zero at h = refl
bytes_there page (suc n) at h =
    rw (drop-cons page at 0 (omega arith), byte_in page at (omega arith))
    (ap (λ (l : List ℕ). get_or page at 0 ∷ l) (rw (← add-one at) (bytes_there page n (at + 1) (omega arith))))

piece_there : (page : List ℕ) (n at : ℕ) → at + n ≤ length page → piece_of page at n ≡ bytes_of (part_cells page at n)
unfolding when◌then◌else◌
piece_there page n at h = rw (le-leb (at + n) (length page) h) (bytes_there page n at h ∙ sym (bytes_at (bytes_from page at n) at))

-- what was copied to the front is read there
copied_there : (scratch bytes : List ℕ) → length bytes ≤ length scratch → piece_of (sets scratch 0 bytes) 0 (length bytes) ≡ bytes
unfolding when◌then◌else◌
copied_there scratch bytes h =
    rw (le-leb (0 + length bytes) (length (sets scratch 0 bytes)) (omega (arith, length-sets scratch 0 bytes)))
    (rw (sets-eq bytes scratch 0 (omega arith)) (take-append_seam bytes _))

-- what two calls left alike is alike in number and values
numbered : {x y : Collected} → x ≡ y → x.answer.number ≡ y.answer.number
numbered e = ap (λ (c : Collected). c.answer.number) e

valued : {x y : Collected} → x ≡ y → (i : ℕ) → get_or x.answer.values i 0 ≡ get_or y.answer.values i 0
valued e i = ap (λ (c : Collected). get_or c.answer.values i 0) e

-- where the body begins and where its seam is are places of the page
module _ (s : Scan) (n : ℕ) (a : Asks s n) where
  first_small : first s ≤ n
  unfolding scan_in_range
  first_small =
      let p = parts s.tokenizer (both (in_range s.tokenizer) _ a.range).0 in
      if_is ℕ (λ (k : ℕ). k ≤ n) _ _ _ (λ e. omega (arith, start_within s.tokenizer.job p.job, a.long)) (λ e. omega (arith, p.regs.body, a.long))

  seam_small : seam s ≤ n
  unfolding scan_in_range
  seam_small =
      let p = parts s.tokenizer (both (in_range s.tokenizer) _ a.range).0 in
      if_is ℕ (λ (k : ℕ). k ≤ n) _ _ _ (λ e. a.at) (λ e. if_is ℕ (λ (k : ℕ). k ≤ n) _ _ _ (λ f. a.at) (λ f. omega (arith, p.regs.joint, a.long)))

module _ (page : List ℕ) (s : Scan) where
  abbrev to_copy : List Cell
  to_copy = expression_cells page (first s) s.tokenizer.at

  page_part : asked s (length page) ≡ true → unbroken page s ≡ true → piece_of page (first s) (seam s - first s) ≡ body_of page s
  unfolding body_of body_cells
  page_part a u =
      let k = asks s (length page) a in
      piece_there page (seam s - first s) (first s) (omega (arith, first_small s (length page) k, seam_small s (length page) k)) ∙ ap bytes_of (if_yes _ _ _ _ _ u refl)

  scratch_part : (scratch : List ℕ) → unbroken page s ≡ false → leb (length to_copy) (length scratch) ≡ true → piece_of (sets scratch 0 (bytes_of to_copy)) 0 (length to_copy) ≡ body_of page s
  unfolding body_of body_cells
  scratch_part scratch u l =
      let e = bytes_long to_copy in
      let f = leb-true (length to_copy) (length scratch) l in
      rw e at (copied_there scratch (bytes_of to_copy) (omega (arith, e, f))) ∙ ap bytes_of (if_no _ _ _ _ _ u refl)

  -- what the call leaves is read as the body
  abbrev Reads : Collected → Type 0
  Reads c = (b : Option Body) (out : List ℕ) → collected_by b out ≡ c → handed_over b ≡ true → part_of page out b ≡ body_of page s

  from_page : (scratch : List ℕ) → asked s (length page) ≡ true → unbroken page s ≡ true → Reads (collected (said number.in_page (first s ∷ (seam s - first s) ∷ [])) scratch)
  from_page scratch a u (Some (InPage at n)) out e h = rw (valued e 0, valued e 1) (page_part a u)
  from_page scratch a u (Some (InScratch n)) out e h = absurd (omega (arith, numbered e))
  from_page scratch a u None out e h = clash false h refl

  from_scratch : (scratch : List ℕ) → unbroken page s ≡ false → leb (length to_copy) (length scratch) ≡ true → Reads (collected (said number.in_scratch (length to_copy ∷ [])) (sets scratch 0 (bytes_of to_copy)))
  from_scratch scratch u l (Some (InPage at n)) out e h = absurd (omega (arith, numbered e))
  from_scratch scratch u l (Some (InScratch n)) out e h = rw (valued e 0, ap (λ (c : Collected). c.scratch) e) (scratch_part scratch u l)
  from_scratch scratch u l None out e h = clash false h refl

  from_none : (scratch : List ℕ) → Reads (collected refused scratch)
  from_none scratch (Some (InPage at n)) out e h = absurd (omega (arith, numbered e))
  from_none scratch (Some (InScratch n)) out e h = absurd (omega (arith, numbered e))
  from_none scratch None out e h = clash false h refl

pub part_is_the_body : PartIsBody
unfolding collect_of
part_is_the_body page s scratch =
    if_is Collected (Reads page s) _ _ _
    (λ a.
    if_is Collected (Reads page s) _ _ _ (λ u. from_page page s scratch a u)
    (λ u. if_is Collected (Reads page s) _ _ _ (λ l. from_scratch page s scratch u l) (λ l. from_none page s scratch)))
    (λ a. from_none page s scratch)
