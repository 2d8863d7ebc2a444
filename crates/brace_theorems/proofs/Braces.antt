-- Laws of the rule on braces: what its computed form finds is the first offset that closes, and what holds of the braces that are passed, byte
-- by byte, until one closes or the page ends.
use Prim.Native.Nat.{ℕ, zero, suc, ◌+◌, ◌-◌, ◌≤◌, ◌<◌}
use native.Mathlib.Omega.{arith}
use native.Mathlib.Decide.{dec_le}
use mathlib.Core.Path.{◌≡◌, refl, sym, ap, ◌∙◌}
use mathlib.Core.Logic.{◌↔◌, by_cases}
use mathlib.Core.Bool.{true, false, ◌&&◌}
use mathlib.Core.List.{List, [], ◌∷◌, ◌++◌}
use mathlib.Core.Option.{Option, none, some}
use lib.Dec.{ltb, eqb}
use lib.ListN.{length, get_or, drop, length-take, length-drop, get_or-eq_default}
use lib.Seq.{take-suc, get_or-drop}
use borrow.Author.Tests.{eqb-true, eqb-false, eq-eqb, ne_eqb, lt-ltb, le-ltb}
use Rattle.base.specs.If.{when◌then◌else◌}
use Rattle.base.proofs.Choice.{if_is, case, and_no, and_no'}
use Rattle.base.specs.Byte.{left_brace, right_brace}
use Rattle.brace_theorems.specs.Braces.{how_many, between, even_between, closes, ClosingOffset, NeverCloses, first_of, closing_of}
use Rattle.scan_theorems.proofs.Tests.{clash}

-- ---- the computed form

-- no offset past the page's end closes anything
past_end : (page : List ℕ) (brace c : ℕ) → length page ≤ c → closes page brace c ≡ false
unfolding closes
past_end page brace c h =
    let z = get_or-eq_default page 0 h in
    and_no' (ltb brace c) _ (and_no (eqb (get_or page c 0) right_brace) _ (rw z refl))

module _ (page : List ℕ) (brace : ℕ) where
  -- what a search from c on finds, if nothing closes before c
  record Finds (o : Option ℕ) : Type 0 where
    first : (c : ℕ) → o ≡ some c → ClosingOffset page brace c
    nothing : o ≡ none → NeverCloses page brace

  found : (c n : ℕ) → length page ≤ c + n → ((d : ℕ) → d < c → closes page brace d ≡ false) → Finds (first_of page brace c n)
  unfolding when◌then◌else◌
  found c zero l h =
      record {
        first = λ d e. let z : ◌≡◌ {A = ℕ} 0 1 = cc in absurd (omega arith);
        nothing = λ e d. by_cases (dec_le (suc d) c) (λ (x : d < c). h d x) (λ x. past_end page brace d (omega (arith, x)));
      }
  found c (suc n) l h =
      case _ (closes page brace c)
      (λ e. rw e (record { first = λ d x. let y : c ≡ d = cc in rw (sym y) (record { there = e; first = h }); nothing = λ x. let z : ◌≡◌ {A = ℕ} 0 1 = cc in absurd (omega arith) }))
      (λ e. rw e (found (c + 1) n (omega arith) (λ d x. by_cases (dec_le (suc d) c) (λ (y : d < c). h d y) (λ y. let z : d ≡ c = omega (arith, x, y) in rw z e))))

  closing_finds : Finds (closing_of page brace)
  unfolding closing_of
  closing_finds = found 0 (length page) (omega arith) (λ d x. absurd (omega arith))

  -- there is one first
  one_first : (c d : ℕ) → ClosingOffset page brace c → ClosingOffset page brace d → c ≡ d
  one_first c d f g =
      by_cases (dec_le (suc c) d) (λ (x : c < d). clash (closes page brace c) f.there (g.first c x))
      (λ x. by_cases (dec_le (suc d) c) (λ (y : d < c). clash (closes page brace d) g.there (f.first d y)) (λ y. omega (arith, x, y)))

  first_found : (c : ℕ) → ClosingOffset page brace c → (o : Option ℕ) → Finds o → o ≡ some c
  first_found c f none h = clash (closes page brace c) f.there (h.nothing refl c)
  first_found c f (some d) h = ap some (one_first d c (h.first d refl) f)

  none_found : NeverCloses page brace → (o : Option ℕ) → Finds o → o ≡ none
  none_found f none h = refl
  none_found f (some c) h = clash (closes page brace c) (h.first c refl).there (f c)

  pub closing_is_the_first : (c : ℕ) → (closing_of page brace ≡ some c) ↔ ClosingOffset page brace c
  closing_is_the_first c = (closing_finds.first c, λ f. first_found c f (closing_of page brace) closing_finds)

  pub nothing_closes : (closing_of page brace ≡ none) ↔ NeverCloses page brace
  nothing_closes = (closing_finds.nothing, λ f. none_found f (closing_of page brace) closing_finds)

-- ---- byte by byte

-- a byte more is one more of its number
count_more : (b : ℕ) (bytes : List ℕ) (x : ℕ) → how_many b (bytes ++ (x ∷ [])) ≡ how_many b bytes + (when eqb x b then 1 else 0)
count_more b [] x = omega arith
count_more b (y ∷ bytes) x = omega (arith, count_more b bytes x)

between_more : (page : List ℕ) (brace at : ℕ) → brace < at → at < length page → between page brace (at + 1) ≡ between page brace at ++ (get_or page at 0 ∷ [])
between_more page brace at h l =
    let n = at - (brace + 1) in
    let s : at + 1 - (brace + 1) ≡ suc n = omega arith in
    let p : brace + 1 + n ≡ at = omega arith in
    rw s
    (take-suc (drop (brace + 1) page) n 0 (omega (arith, length-drop (brace + 1) page))
    ∙ ap (λ (x : ℕ). between page brace at ++ (x ∷ [])) (get_or-drop (brace + 1) page n 0 ∙ ap (λ (x : ℕ). get_or page x 0) p))

-- The `{` at `brace` is passed and no byte before `at` closes it: of the bytes between, `depth` more are `{` than are `}`.
pub record Passed (page : List ℕ) (brace at depth : ℕ) : Type 0 where
  pub behind : brace < at
  pub unclosed : (c : ℕ) → c < at → closes page brace c ≡ false
  pub more : how_many left_brace (between page brace at) ≡ depth + how_many right_brace (between page brace at)

count_small : (b : ℕ) (bytes : List ℕ) → how_many b bytes ≤ length bytes
count_small b [] = omega arith
count_small b (x ∷ bytes) = omega (arith, count_small b bytes, if_is ℕ (λ (n : ℕ). n ≤ 1) (eqb x b) 1 0 (λ e. omega arith) (λ e. omega arith))

-- no more `{` are open than bytes are passed
pub passed_depth : (page : List ℕ) (brace at depth : ℕ) → Passed page brace at depth → depth ≤ at
passed_depth page brace at depth p =
    let bytes = between page brace at in
    omega (arith, p.more, count_small left_brace bytes, length-take (at - (brace + 1)) (drop (brace + 1) page))

-- right behind it
pub passed_first : (page : List ℕ) (brace : ℕ) → Passed page brace (brace + 1) 0
unfolding closes
passed_first page brace =
    let z : brace + 1 - (brace + 1) ≡ 0 = omega arith in
    record {
      behind = omega arith;
      unclosed = λ c h. and_no (ltb brace c) _ (le-ltb brace c (omega arith));
      more = rw z refl;
    }

module _ (page : List ℕ) (brace at depth : ℕ) (p : Passed page brace at depth) where
  abbrev b : ℕ
  b = get_or page at 0

  -- a `}` there closes it where the two are equally many
  even_here : even_between page brace at ≡ eqb depth 0
  even_here =
      let r = how_many right_brace (between page brace at) in
      case _ (eqb depth 0)
      (λ e. eq-eqb (how_many left_brace (between page brace at)) r (omega (arith, p.more, eqb-true depth 0 e)) ∙ sym e)
      (λ e. ne_eqb (how_many left_brace (between page brace at)) r (λ x. eqb-false depth 0 e (omega (arith, p.more, x))) ∙ sym e)

  closes_here : closes page brace at ≡ (eqb b right_brace && eqb depth 0)
  unfolding closes
  closes_here = rw (lt-ltb brace at p.behind, even_here)

  -- it does, or the page ends
  pub passed_closes : (eqb b right_brace && eqb depth 0) ≡ true → closing_of page brace ≡ some at
  passed_closes e = (closing_is_the_first page brace at).1 (record { there = closes_here ∙ e; first = p.unclosed })

  pub passed_ends : length page ≤ at → closing_of page brace ≡ none
  passed_ends l =
      (nothing_closes page brace).1 λ c.
      by_cases (dec_le (suc c) at) (λ (x : c < at). p.unclosed c x) (λ x. past_end page brace c (omega (arith, x)))

  -- or the byte is passed
  pub passed_more : (next : ℕ) → at < length page → (eqb b right_brace && eqb depth 0) ≡ false
      → (when eqb b left_brace then 1 else 0) + depth ≡ (when eqb b right_brace then 1 else 0) + next → Passed page brace (at + 1) next
  passed_more next l e d =
      let m = between_more page brace at p.behind l in
      let bytes = between page brace at in
      let left : how_many left_brace (between page brace (at + 1)) ≡ _ = ap (how_many left_brace) m ∙ count_more left_brace bytes b in
      let right : how_many right_brace (between page brace (at + 1)) ≡ _ = ap (how_many right_brace) m ∙ count_more right_brace bytes b in
      record {
        behind = omega (arith, p.behind);
        unclosed = λ c h. by_cases (dec_le (suc c) at) (λ (x : c < at). p.unclosed c x) (λ x. let z : c ≡ at = omega (arith, h, x) in rw z (closes_here ∙ e));
        more = omega (arith, p.more, left, right, d);
      }
