-- What the one pass over a page has found out when it has come to a place: nothing at fault so far, an anchor of the place, and one of the
-- start, as far as it is passed.
use Prim.Native.Nat.{ℕ, zero, suc, ◌+◌, ◌-◌, ◌*◌, ◌≤◌, ◌<◌}
use native.Mathlib.Omega.{arith}
use native.Mathlib.Decide.{dec_le}
use mathlib.Core.Path.{◌≡◌, refl, sym, ap, ◌∙◌}
use mathlib.Core.Bool.{Bool, false, ◌||◌}
use mathlib.Core.Logic.{by_cases}
use mathlib.Core.List.{List}
use lib.Dec.{eqb, ltb}
use lib.ListN.{length, get_or, drop, drop_of_length-le}
use borrow.Author.Tests.{ne_eqb, lt-ltb, le-ltb}
use Rattle.std.specs.Prelude.{Ok, Err}
use Rattle.base.specs.Byte.{tab, line_feed, carriage_return}
use Rattle.base.specs.If.{when◌then◌else◌}
use Rattle.base.proofs.Choice.{if_yes, if_no, or_no}
use Rattle.base.proofs.Ranges.{within_is}
use Rattle.base.specs.Page.{byte_at}
use Rattle.page.specs.declared.line.Line.{Line}
use Rattle.page.specs.declared.line.Anchor.{Anchor}
use Rattle.page.specs.declared.Fault.{Fault}
use Rattle.page.specs.declared.Fault.TheVariants.{BadText}
use Rattle.page.specs.Utf8.{sequence}
use Rattle.page.specs.Line.{line_of, column_of, spot, line_at, passed_line, onward, line_from, first_anchor, anchor_past}
use Rattle.page.specs.Text.{fault, read_from, read_text}
use Rattle.page.specs.Page.{checked_by}
use Rattle.page.specs.Plain.{PlainTo}
use Rattle.page.proofs.Places.{ascii_at}
use Rattle.page.proofs.Reading.{passes_at, next_place, halts_return, halts_ill}
use Rattle.page.proofs.Sequences.{sequence_high}
use Rattle.page.proofs.Lines.{line_first, line_passed, line_within, column_within, plain_line}

-- an anchor of a place: no further on, and the place's line and column are counted from it
pub record Anchors (page : List ℕ) (a : Anchor) (at : ℕ) : Type 0 where
  pub before : a.from ≤ at
  pub counts : line_from a at ≡ line_at page at

pub record Reads (page : List ℕ) (start at : ℕ) (anchor begun : Anchor) : Type 0 where
  pub within : at ≤ length page
  pub read : read_from 0 0 page ≡ read_from 0 at (drop at page)
  pub here : Anchors page anchor at
  pub ahead : at ≤ start → begun ≡ anchor
  pub behind : start ≤ at → Anchors page begun start

-- the byte at a place of the page
byte_is : (page : List ℕ) (p : ℕ) → p < length page → byte_at page p ≡ get_or page p 0
unfolding byte_at
byte_is page p h = sym (if_yes ℕ (ltb p (length page)) (get_or page p 0) (get_or page p 0) 256 (lt-ltb p (length page) h) refl)

-- what an anchor's numbers are counted with
pub record Small (a : Anchor) (at : ℕ) : Type 0 where
  pub before : a.from ≤ at
  pub column : a.line.column + (at - a.from) ≤ 4 * at + 1
  pub number : a.line.number ≤ at + 1

module _ (page : List ℕ) where
  pub anchor_small : (a : Anchor) (at : ℕ) → Anchors page a at → Small a at
  anchor_small a at h =
      let n : a.line.number ≡ line_of page at = ap (λ (l : Line). l.number) h.counts in
      let c : a.line.column + (at - a.from) ≡ column_of page at = ap (λ (l : Line). l.column) h.counts in
      record { before = h.before; column = omega (arith, c, column_within page at); number = omega (arith, n, line_within page at) }

  first_anchors : Anchors page first_anchor 0
  first_anchors = record { before = omega arith; counts = sym (line_first page) }

  -- it is one of a place further on too, where the bytes between are one column each
  anchors_on : (a : Anchor) (at n : ℕ) → Anchors page a at → ((i : ℕ) → i < n → (eqb (byte_at page (at + i)) line_feed || eqb (byte_at page (at + i)) tab) ≡ false) → Anchors page a (at + n)
  anchors_on a at n h plain =
      let e : a.line.column + (at + n - a.from) ≡ a.line.column + (at - a.from) + n = omega (arith, h.before) in
      record { before = omega (arith, h.before); counts = rw e (ap (onward n) h.counts ∙ sym (plain_line page at n plain)) }

  -- the next anchor is one of the place behind the byte
  anchors_past : (a : Anchor) (at : ℕ) → Anchors page a at → Anchors page (anchor_past a at (byte_at page at)) (at + 1)
  anchors_past a at h =
      let z : (c : ℕ) → c + (at + 1 - (at + 1)) ≡ c = λ c. omega arith in
      let next = passed_line (line_from a at) (byte_at page at) in
      record {
        before = omega arith;
        counts = ap (λ (c : ℕ). record { number = next.number; column = c }) (z next.column) ∙ ap (λ (l : Line). passed_line l (byte_at page at)) h.counts ∙ sym (line_passed page at);
      }

module _ (page : List ℕ) (start : ℕ) where
  pub reads_first : (anchor begun : Anchor) → anchor ≡ first_anchor → begun ≡ first_anchor → Reads page start 0 anchor begun
  reads_first anchor begun e f =
      record {
        within = omega arith;
        read = refl;
        here = rw e (first_anchors page);
        ahead = λ h. f ∙ sym e;
        behind = λ h. let z : start ≡ 0 = omega arith in rw (f, z) (first_anchors page);
      }

  module _ (at : ℕ) (anchor begun : Anchor) (h : Reads page start at anchor begun) (here : at < length page) where
    pub counts : Small anchor at
    counts = anchor_small page anchor at h.here

    -- the text is at fault here
    pub reads_fault : (x : Fault) (line : Line) → line ≡ line_from anchor at → x ≡ BadText (spot at line.number line.column) → fault at ≡ read_from 0 at (drop at page) → Err x ≡ checked_by page start (read_text page)
    reads_fault x line l e f =
        ap Err e ∙ ap (λ (y : Line). Err (BadText (spot at y.number y.column))) (l ∙ h.here.counts) ∙ ap (checked_by page start) (f ∙ sym h.read)

    pub reads_return : (x : Fault) (line : Line) → line ≡ line_from anchor at → x ≡ BadText (spot at line.number line.column) → get_or page at 0 ≡ carriage_return → Err x ≡ checked_by page start (read_text page)
    reads_return x line l e b = reads_fault x line l e (halts_return page at here b)

    pub reads_ill : (x : Fault) (line : Line) → line ≡ line_from anchor at → x ≡ BadText (spot at line.number line.column) → sequence (drop at page) ≡ 0 → Err x ≡ checked_by page start (read_text page)
    reads_ill x line l e z = reads_fault x line l e (halts_ill page at here z)

    -- a line feed or a tab is passed
    pub reads_shift : (b : ℕ) (next after : Anchor) → b ≡ get_or page at 0 → get_or page at 0 < 0x80 → (get_or page at 0 ≡ carriage_return → ⊥) → next ≡ anchor_past anchor at b → after ≡ (when ltb at start then next else begun) → Reads page start (at + 1) next after
    reads_shift b next after q a r e f =
        let here' : Anchors page next (at + 1) = rw (e, q, ← byte_is page at here) (anchors_past page anchor at h.here) in
        let first : at < start → after ≡ next = λ g. f ∙ sym (if_yes Anchor _ next next begun (lt-ltb at start g) refl) in
        record {
          within = omega arith;
          read = h.read ∙ passes_at page at here 1 (λ z. omega arith) r (sym (ascii_at page at here a));
          here = here';
          ahead = λ g. first (omega arith);
          behind = λ g.
              by_cases (dec_le start at)
              (λ (s : start ≤ at). rw (f ∙ sym (if_no Anchor _ begun next begun (le-ltb at start s) refl)) (h.behind s))
              (λ s. let z : start ≡ at + 1 = omega (arith, s) in rw (first (omega (arith, s)), z) here');
        }

    -- bytes are passed that are one column each, and make one character
    module _ (n : ℕ) (plain : (i : ℕ) → i < n → (eqb (byte_at page (at + i)) line_feed || eqb (byte_at page (at + i)) tab) ≡ false) where
      reads_on : n ≡ sequence (drop at page) → (n ≡ 0 → ⊥) → (get_or page at 0 ≡ carriage_return → ⊥) → Reads page start (at + n) anchor begun
      reads_on e z b =
          record {
            within = next_place page at here n e;
            read = h.read ∙ passes_at page at here n z b e;
            here = anchors_on page anchor at n h.here plain;
            ahead = λ g. h.ahead (omega arith);
            behind = λ g.
                by_cases (dec_le start at)
                (λ (s : start ≤ at). h.behind s)
                (λ s.
                let k : at + (start - at) ≡ start = omega (arith, s) in
                rw (h.ahead (omega (arith, s))) (rw k at (anchors_on page anchor at (start - at) h.here (λ i j. plain i (omega (arith, s))))));
          }

    plain_byte : (p b : ℕ) → byte_at page p ≡ b → (b ≡ line_feed → ⊥) → (b ≡ tab → ⊥) → (eqb (byte_at page p) line_feed || eqb (byte_at page p) tab) ≡ false
    plain_byte p b e f g = rw e (or_no _ _ (ne_eqb b line_feed f) (ne_eqb b tab g))

    pub reads_ascii : (b : ℕ) (r : Bool) → b ≡ get_or page at 0 → get_or page at 0 < 0x80 → (get_or page at 0 ≡ carriage_return → ⊥) → r ≡ (eqb b line_feed || eqb b tab) → r ≡ false → Reads page start (at + 1) anchor begun
    reads_ascii b r q a c e f =
        reads_on 1
        (λ i j. let z : at + i ≡ at = omega arith in rw (z, byte_is page at here, ← q) (sym e ∙ f))
        (sym (ascii_at page at here a)) (λ z. omega arith) c

    pub reads_more : (size : ℕ) → 0x80 ≤ get_or page at 0 → size ≡ sequence (drop at page) → (size ≡ 0 → ⊥) → Reads page start (at + size) anchor begun
    reads_more size a e z =
        reads_on size
        (λ i j.
        let p = next_place page at here size e in
        let g = sequence_high page at here size a e i j in
        plain_byte (at + i) (get_or page (at + i) 0) (byte_is page (at + i) (omega arith)) (λ f. omega (arith, f)) (λ f. omega (arith, f)))
        e z (λ f. omega (arith, f))

  -- plain bytes are passed, one after the other
  module _ (at : ℕ) (anchor begun : Anchor) (h : Reads page start at anchor begun) where
    reads_run : (n : ℕ) → PlainTo page at (at + n) → Reads page start (at + n) anchor begun
    reads_run zero p = let e : at + 0 ≡ at = omega arith in rw e h
    reads_run (suc n) p =
        let b = get_or page (at + n) 0 in
        let range = within_is 14 127 b (p.each (at + n) (omega arith) (omega arith)) in
        let before = reads_run n (record { onward = omega arith; in_page = omega (arith, p.in_page); each = λ i f l. p.each i f (omega arith) }) in
        let column : (eqb b line_feed || eqb b tab) ≡ false = or_no _ _ (ne_eqb b line_feed (λ f. omega (arith, f))) (ne_eqb b tab (λ f. omega (arith, f))) in
        let e : at + suc n ≡ at + n + 1 = omega arith in
        rw e (reads_ascii (at + n) anchor begun before (omega (arith, p.in_page)) b false refl (omega arith) (λ f. omega (arith, f)) (sym column) refl)

    pub reads_plain : (end : ℕ) → PlainTo page at end → Reads page start end anchor begun
    reads_plain end p =
        let e : at + (end - at) ≡ end = omega (arith, p.onward) in
        rw e at (reads_run (end - at) (rw e p))

  -- the page is read
  pub reads_all : (at : ℕ) (anchor begun : Anchor) (line : Line) → Reads page start at anchor begun → start ≤ length page → length page ≤ at → line ≡ line_from begun start → Ok line ≡ checked_by page start (read_text page)
  unfolding read_from
  reads_all at anchor begun line h s e l =
      ap Ok (l ∙ (h.behind (omega arith)).counts) ∙ sym (ap (checked_by page start) (h.read ∙ ap (read_from 0 at) (drop_of_length-le page e)))

  -- the anchor of the start, when the page is read
  pub begun_small : (at : ℕ) (anchor begun : Anchor) → Reads page start at anchor begun → start ≤ at → Small begun start
  begun_small at anchor begun h s = anchor_small page begun start (h.behind s)
