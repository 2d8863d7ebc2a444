-- How the bytes of a body are counted and copied, one place at a time; and when nothing but a line prefix is left.
use Prim.Native.Nat.{ℕ, zero, suc, ◌+◌, ◌-◌, ◌≤◌, ◌<◌}
use native.Mathlib.Omega.{arith}
use native.Mathlib.Numerals.{sub-one, add-one}
use mathlib.Core.Path.{◌≡◌, refl, sym, ap, ◌∙◌}
use mathlib.Core.Bool.{true, false}
use mathlib.Core.List.{List, [], ◌∷◌, ◌++◌}
use lib.Dec.{ltb, eqb}
use lib.ListN.{length, set, replicate, length-append, length-map}
use lib.Seq.{sets}
use borrow.Rule.Slice.PartMut.{put_mid}
use Rattle.std.proofs.lemmas.List.Edits.{sets-eq}
use Rattle.std.proofs.lemmas.List.{take_all}
use Rattle.std.proofs.lemmas.Slice.{put_mid-paste}
use borrow.Author.Tests.{eq-eqb, ne_eqb, ltb-true}
use Rattle.base.specs.If.{when◌then◌else◌}
use Rattle.base.proofs.Choice.{case, both, and_no', and_yes}
use Rattle.base.specs.Byte.{space}
use Rattle.base.specs.Page.{byte_at}
use Rattle.events.proofs.Laws.{sets_append}
use Rattle.body_places.specs.Body.{Cell, cells_at, bytes_of, prefix_after, in_prefix, splits, spaces, split_tab, drift_at, cells_from}
use Rattle.body_places.proofs.Laws.{skips, parts, keeps, over, one_less}
use Rattle.mdx_collect.specs.Collect.{only_prefix}

-- ---- bytes of cells

pub bytes_at : (bs : List ℕ) (at : ℕ) → bytes_of (cells_at at bs) ≡ bs
bytes_at [] at = refl
bytes_at (b ∷ bs) at = ap (λ (l : List ℕ). b ∷ l) (bytes_at bs (at + 1))

pub bytes_append : (a b : List Cell) → bytes_of (a ++ b) ≡ bytes_of a ++ bytes_of b
bytes_append [] b = refl
bytes_append (c ∷ a) b = ap (λ (l : List ℕ). c.byte ∷ l) (bytes_append a b)

pub spaces_long : (n : ℕ) → length (spaces n) ≡ n
spaces_long zero = refl
spaces_long (suc n) = ap suc (spaces_long n)

-- bytes do not depend on how far places drift
module _ (page : List ℕ) where
  pub no_drift : (n left drift at : ℕ) → bytes_of (cells_from page left drift at n) ≡ bytes_of (cells_from page left 0 at n)
  unfolding cells_from when◌then◌else◌
  no_drift zero left drift at = refl
  no_drift (suc n) left drift at =
      let b = byte_at page at in
      case _ (in_prefix b left) (λ e. rw e (no_drift n (left - 1) drift (at + 1)))
      (λ e. rw e (case _ (splits b left) (λ f. rw f)
      (λ f. rw f (ap (λ (l : List ℕ). b ∷ l) (no_drift n (prefix_after b) (drift_at b drift) (at + 1) ∙ sym (no_drift n (prefix_after b) (drift_at b 0) (at + 1)))))))

-- the bytes of the body between two places
abbrev pub bytes_left : List ℕ → ℕ → ℕ → ℕ → List ℕ
bytes_left page left at to = bytes_of (cells_from page left 0 at (to - at))

module _ (page : List ℕ) (left at to : ℕ) (h : at < to) where
  abbrev b : ℕ
  b = byte_at page at

  pub bytes_skip : in_prefix b left ≡ true → bytes_left page left at to ≡ bytes_left page (left - 1) (at + 1) to
  bytes_skip e = rw (skips page left 0 at (to - at) (omega arith) e, one_less to at)

  pub bytes_split : in_prefix b left ≡ false → splits b left ≡ true → bytes_left page left at to ≡ spaces (4 - left) ++ bytes_left page 0 (at + 1) to
  bytes_split e f =
      let rest = cells_from page 0 (4 - left - 1) (at + 1) (to - at - 1) in
      ap bytes_of (parts page left 0 at (to - at) (omega arith) e f)
      ∙ bytes_append (cells_at at (split_tab left)) rest
      ∙ ap (λ (l : List ℕ). l ++ bytes_of rest) (bytes_at (split_tab left) at)
      ∙ ap (λ (l : List ℕ). spaces (4 - left) ++ l) (no_drift page (to - at - 1) 0 (4 - left - 1) (at + 1) ∙ ap (λ (n : ℕ). bytes_of (cells_from page 0 0 (at + 1) n)) (one_less to at))

  pub bytes_keep : in_prefix b left ≡ false → splits b left ≡ false → bytes_left page left at to ≡ b ∷ bytes_left page (prefix_after b) (at + 1) to
  bytes_keep e f =
      ap bytes_of (keeps page left 0 at (to - at) (omega arith) e f)
      ∙ ap (λ (l : List ℕ). b ∷ l) (no_drift page (to - at - 1) (prefix_after b) (drift_at b 0) (at + 1) ∙ ap (λ (n : ℕ). bytes_of (cells_from page (prefix_after b) 0 (at + 1) n)) (one_less to at))

pub bytes_over : (page : List ℕ) (left at to : ℕ) → to ≤ at → bytes_left page left at to ≡ []
bytes_over page left at to h = rw (over page left 0 at (to - at) (omega arith))

-- there are as many bytes as cells
pub bytes_long : (cells : List Cell) → length (bytes_of cells) ≡ length cells
bytes_long cells = length-map cells (λ (c : Cell). c.byte)

-- ---- the count

module _ (page : List ℕ) (left at to : ℕ) (h : at < to) where
  abbrev left_over : ℕ → ℕ → ℕ
  left_over left at = length (bytes_left page left at to)

  pub passed_over : in_prefix (byte_at page at) left ≡ true → left_over (left - 1) (at + 1) ≡ left_over left at
  passed_over e = rw (bytes_skip page left at to h e)

  module _ (e : in_prefix (byte_at page at) left ≡ false) where
    pub split_over : splits (byte_at page at) left ≡ true → left_over left at ≡ left_over 0 (at + 1) + (4 - left)
    split_over f =
        ap length (bytes_split page left at to h e f) ∙ omega (arith, length-append (spaces (4 - left)) (bytes_left page 0 (at + 1) to), spaces_long (4 - left))

    pub counted : splits (byte_at page at) left ≡ false → left_over left at ≡ left_over (prefix_after (byte_at page at)) (at + 1) + 1
    counted f = rw (bytes_keep page left at to h e f) (omega arith)

pub all_counted : (page : List ℕ) (left at to : ℕ) → to ≤ at → length (bytes_left page left at to) ≡ 0
all_counted page left at to h = rw (bytes_over page left at to h)

-- ---- the copy

module _ (page out : List ℕ) (left at to n : ℕ) (h : at < to) where
  -- what is still to be copied, from place n of the scratch on
  abbrev to_copy : List ℕ → ℕ → ℕ → ℕ → List ℕ
  to_copy out n left at = sets out n (bytes_left page left at to)

  pub passed_by : in_prefix (byte_at page at) left ≡ true → to_copy out n left at ≡ to_copy out n (left - 1) (at + 1)
  passed_by e = rw (bytes_skip page left at to h e)

  module _ (e : in_prefix (byte_at page at) left ≡ false) where
    pub put_spaces : splits (byte_at page at) left ≡ true → to_copy out n left at ≡ to_copy (sets out n (spaces (4 - left))) (n + (4 - left)) 0 (at + 1)
    put_spaces f =
        ap (sets out n) (bytes_split page left at to h e f)
        ∙ sets_append (spaces (4 - left)) (bytes_left page 0 (at + 1) to) out n
        ∙ ap (λ (k : ℕ). sets (sets out n (spaces (4 - left))) (n + k) (bytes_left page 0 (at + 1) to)) (spaces_long (4 - left))

    pub put_one : splits (byte_at page at) left ≡ false → to_copy out n left at ≡ to_copy (set out n (byte_at page at)) (n + 1) (prefix_after (byte_at page at)) (at + 1)
    put_one f = rw (bytes_keep page left at to h e f, add-one n)

pub all_put : (page out : List ℕ) (left at to n : ℕ) → to ≤ at → sets out n (bytes_left page left at to) ≡ out
all_put page out left at to n h = rw (bytes_over page left at to h)

-- spaces, all at once
spaces_are : (n : ℕ) → spaces n ≡ replicate n space
spaces_are zero = refl
spaces_are (suc n) = ap (λ (l : List ℕ). space ∷ l) (spaces_are n)

pub filled : (out part : List ℕ) (from end : ℕ) → from ≤ end → end ≤ length out → part ≡ replicate (end - from) space → put_mid from (end - from) out part ≡ sets out from (spaces (end - from))
filled out part from end h g e =
    let blanks = spaces (end - from) in
    let l = spaces_long (end - from) in
    let t = take_all (end - from) blanks (omega (arith, l)) in
    put_mid-paste from (end - from) out part blanks (end - from) (e ∙ sym (spaces_are (end - from))) refl (sym l)
    ∙ rw t (sym (rw l at (sets-eq blanks out from (omega (arith, l)))))

-- ---- nothing but a line prefix

-- a byte that is no prefix's is the body's
kept_some : (page : List ℕ) (n left drift at : ℕ) → left ≤ 2 → 0 < n → in_prefix (byte_at page at) left ≡ false → 1 ≤ length (cells_from page left drift at n)
kept_some page n left drift at s h e =
    case _ (splits (byte_at page at) left)
    (λ f.
    let rest = cells_from page 0 (4 - left - 1) (at + 1) (n - 1) in
    let k = ap length (bytes_at (split_tab left) at) ∙ spaces_long (4 - left) in
    let j = bytes_long (cells_at at (split_tab left)) in
    rw (parts page left drift at n h e f) (omega (arith, length-append (cells_at at (split_tab left)) rest, j, k)))
    (λ f. rw (keeps page left drift at n h e f) (omega arith))

-- more bytes than the prefix may have: one is the body's
some_left : (page : List ℕ) (n left drift at : ℕ) → left ≤ 2 → left < n → 1 ≤ length (cells_from page left drift at n)
some_left page zero left drift at s h = absurd (omega arith)
some_left page (suc n) left drift at s h =
    let b = byte_at page at in
    case _ (in_prefix b left)
    (λ e.
    let l = ltb-true 0 left (both (ltb 0 left) _ e).0 in
    rw (skips page left drift at (suc n) (omega arith) e, sub-one (suc n)) (some_left page n (left - 1) drift (at + 1) (omega arith) (omega arith)))
    (λ e. kept_some page (suc n) left drift at s (omega arith) e)

some : (page : List ℕ) (from to : ℕ) → 1 ≤ length (cells_from page 2 0 from (to - from)) → false ≡ only_prefix page from to
unfolding only_prefix
some page from to h = sym (ne_eqb (length (cells_from page 2 0 from (to - from))) 0 (λ e. omega arith))

module _ (page : List ℕ) (from to : ℕ) where
  pub nothing : to ≤ from → true ≡ only_prefix page from to
  unfolding only_prefix
  nothing h = rw (over page 2 0 from (to - from) (omega arith))

  pub longer : 2 < to - from → false ≡ only_prefix page from to
  longer h = some page from to (some_left page (to - from) 2 0 from (omega arith) h)

  pub begun : from < to → (byte_at page from ≡ space → ⊥) → false ≡ only_prefix page from to
  begun h e = some page from to (kept_some page (to - from) 2 0 from (omega arith) (omega arith) (and_no' (ltb 0 2) _ (ne_eqb (byte_at page from) space e)))

  rest : from < to → byte_at page from ≡ space → cells_from page 2 0 from (to - from) ≡ cells_from page 1 0 (from + 1) (to - from - 1)
  rest h e = skips page 2 0 from (to - from) (omega arith) (and_yes (ltb 0 2) _ refl (eq-eqb (byte_at page from) space e))

  pub one_blank : to - from ≡ 1 → byte_at page from ≡ space → true ≡ only_prefix page from to
  unfolding only_prefix
  one_blank h e = rw (rest (omega arith) e, over page 1 0 (from + 1) (to - from - 1) (omega arith))

  pub two_blanks : from < to → to - from ≤ 2 → (to - from ≡ 1 → ⊥) → byte_at page from ≡ space → eqb (byte_at page (from + 1)) space ≡ only_prefix page from to
  unfolding only_prefix
  two_blanks h g d e =
      let b = byte_at page (from + 1) in
      let n = to - from - 1 in
      rw (rest h e)
      (case _ (eqb b space)
      (λ f. rw (f, skips page 1 0 (from + 1) n (omega arith) (and_yes (ltb 0 1) _ refl f), over page (1 - 1) 0 (from + 1 + 1) (n - 1) (omega arith)))
      (λ f.
      let k = kept_some page n 1 0 (from + 1) (omega arith) (omega arith) (and_no' (ltb 0 1) _ f) in
      rw f (sym (ne_eqb (length (cells_from page 1 0 (from + 1) n)) 0 (λ z. omega (arith, k, z))))))
