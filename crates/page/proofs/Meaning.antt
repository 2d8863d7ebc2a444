-- What a reading of a text means, both ways, with no word of how it is read:
--     good-is    it finds no fault exactly where the text is well-formed and holds no carriage return
--     bad-is     it finds the fault o exactly where o is the first fault
--     one-first  a text has at most one first fault
use Prim.Native.Nat.{ℕ, zero, suc, ◌+◌, ◌≤◌}
use native.Mathlib.Nat.{le_refl, not-suc-le-zero}
use native.Mathlib.Omega.{arith}
use mathlib.Core.Path.{◌≡◌, refl, sym, ◌∙◌, ap, subst}
use mathlib.Core.Bool.{true}
use mathlib.Core.Logic.{◌⊎◌, ◌↔◌, ⊎_elim, inl, inr}
use mathlib.Core.List.Memᴰ
use mathlib.Core.List.{List, [], ◌∷◌, ◌++◌, append-nil, append_assoc}
use borrow.Author.Tests.{eq-eqb, eqb-true, eqb-false}
use lib.Dec.{eqb}
use lib.ListN.{length, take, drop, length-append, length-drop, take-append-drop}
use lib.Seq.{length-take-le, take-add, drop-drop, get_or-drop, drop-append_seam}
use Rattle.base.specs.Byte.{carriage_return}
use Rattle.base.proofs.Choice.{case, or_yes, or_yes'}
use Rattle.page.specs.Utf8.{table, sequence, Begins, Sequence, WellFormed}
use Rattle.page.specs.Utf8.WellFormed.{empty, more}
use Rattle.page.specs.Text.{Reading, good, fault, read_from, read_text, NoReturn, GoodText, FirstFault}
use Rattle.page.proofs.Rows.{found}
use Rattle.page.proofs.Reading.{stops_at, passes, halts, sequence_length, halts_return, halts_ill}
use Rattle.page.proofs.Sequences.{begins_append, by_its_row, ill, ill_back, first_sequence, plain_sequence}

-- ---- from the meaning to the reading

one_passes : (s : List ℕ) (t : List ℕ) (at : ℕ) → Sequence s → NoReturn s → read_from 0 at (s ++ t) ≡ read_from 0 (at + length s) t
one_passes [] t at q f = ap (λ (n : ℕ). read_from 0 n t) (omega arith)
one_passes (b ∷ s) t at q f =
    let e = by_its_row q.row (b ∷ (s ++ t)) q.listed (begins_append q.row (b ∷ s) t q.begun) in
    passes b (s ++ t) at (length s) (λ h. f (Memᴰ.head (sym h))) (e ∙ sym q.whole)
    ∙ ap (read_from 0 (at + suc (length s))) (drop-append_seam s t)

goes_through : {s : List ℕ} → WellFormed s → (t : List ℕ) (at : ℕ) → NoReturn s →
    read_from 0 at (s ++ t) ≡ read_from 0 (at + length s) t
goes_through empty t at f = ap (λ (n : ℕ). read_from 0 n t) (omega arith)
goes_through (more {s = s} {t = u} q w) t at f =
    ap (read_from 0 at) (append_assoc s u t)
    ∙ one_passes s (u ++ t) at q (λ m. f (Memᴰ.append_left u m))
    ∙ goes_through w t (at + length s) (λ m. f (Memᴰ.append_right s m))
    ∙ ap (λ (n : ℕ). read_from 0 n t) (omega (arith, length-append s u))

-- ---- from the reading to the meaning

nothing_good : GoodText []
nothing_good = record { formed = empty; plain = Memᴰ.not-nil }

good_more : (s : List ℕ) {t : List ℕ} → Sequence s → NoReturn s → GoodText t → GoodText (s ++ t)
good_more s q f g = record { formed = more q g.formed; plain = λ m. ⊎_elim f g.plain (Memᴰ.append_cases s m) }

-- what is found says of the text from the offset `at` on
abbrev Means : ℕ → List ℕ → Reading → Type 0
Means at t good = GoodText t
Means at t (fault o) = (k : ℕ) × (o ≡ at + k) × FirstFault t k

-- after a first sequence of n bytes the meaning is that of the rest
after : (at n : ℕ) (t : List ℕ) → n ≤ length t → Sequence (take n t) → NoReturn (take n t) →
    (x : Reading) → Means (at + n) (drop n t) x → Means at t x
after at n t l q f good g = subst GoodText (take-append-drop n t) (good_more (take n t) q f g)
after at n t l q f (fault o) g =
    let k = g.0 in
    let inner = g.2 in
    let e = g.1 in (
      n + k,
      omega arith,
      record {
        here = let h = inner.here in omega (arith, length-drop n t);
        before = subst GoodText (sym (take-add n k t)) (good_more (take n t) q f inner.before);
        fault =
            ⊎_elim (λ h. inl (sym (get_or-drop n t k 0) ∙ h))
            (λ h. inr (λ b. h (subst Begins (sym (drop-drop k n t)) b))) inner.fault;
      },
    )

-- one step of the reading, and what it means by what the rest means
module _ (at b : ℕ) (t : List ℕ) where
  stopped : stops_at (b ∷ t) b ≡ true → (b ≡ carriage_return) ⊎ (Begins (b ∷ t) → ⊥) → Means at (b ∷ t) (read_from 0 at (b ∷ t))
  stopped e w =
      subst (Means at (b ∷ t)) (halts b t at e)
      (0, omega arith, record { here = omega arith; before = nothing_good; fault = w })

  step : (n : ℕ) → sequence (b ∷ t) ≡ n → (b ≡ carriage_return → ⊥) →
      ((k : ℕ) → Means (at + suc k) (drop k t) (read_from 0 (at + suc k) (drop k t))) →
      Means at (b ∷ t) (read_from 0 at (b ∷ t))
  step zero e h rest =
      stopped (or_yes' (eqb b carriage_return) (eqb (sequence (b ∷ t)) 0) (eq-eqb (sequence (b ∷ t)) 0 e)) (inr (ill_back (b ∷ t) e))
  step (suc k) e h rest =
      let f = found table (b ∷ t) k e in
      let plain = subst (λ (n : ℕ). NoReturn (take n (b ∷ t))) f.3 (plain_sequence f.0 b t f.1 f.2 h) in
      subst (Means at (b ∷ t)) (sym (passes b t at k h e))
      (after at (suc k) (b ∷ t) (sequence_length (b ∷ t) (suc k) e) (first_sequence f.0 (b ∷ t) (suc k) f.1 f.2 f.3) plain
      (read_from 0 (at + suc k) (drop k t)) (rest k))

meaning : (n at : ℕ) (t : List ℕ) → length t ≤ n → Means at t (read_from 0 at t)
unfolding read_from
meaning zero at [] h = nothing_good
meaning (suc n) at [] h = nothing_good
meaning zero at (b ∷ t) h = absurd (not-suc-le-zero h)
meaning (suc n) at (b ∷ t) h =
    case (Means at (b ∷ t) (read_from 0 at (b ∷ t))) (eqb b carriage_return)
    (λ e. stopped at b t (or_yes (eqb b carriage_return) (eqb (sequence (b ∷ t)) 0) e) (inl (eqb-true b carriage_return e)))
    (λ e. step at b t (sequence (b ∷ t)) refl (eqb-false b carriage_return e)
    (λ k. meaning n (at + suc k) (drop k t) (omega (arith, length-drop k t))))

-- ---- the theorems

pub good_is : (t : List ℕ) → (read_text t ≡ good) ↔ GoodText t
unfolding read_from
good_is t = (
  λ e. subst (Means 0 t) e (meaning (length t) 0 t (le_refl (length t))),
  λ g. ap (read_from 0 0) (sym (append-nil t)) ∙ goes_through g.formed [] 0 g.plain,
)

fault_read : (t : List ℕ) (o : ℕ) → FirstFault t o → read_text t ≡ fault o
fault_read t o f =
    let h = f.here in
    let long : length (take o t) ≡ o = length-take-le o t (omega arith) in
    let there : 0 + length (take o t) ≡ o = omega arith in
    ap (read_from 0 0) (sym (take-append-drop o t))
    ∙ goes_through f.before.formed (drop o t) 0 f.before.plain
    ∙ ap (λ (n : ℕ). read_from 0 n (drop o t)) there
    ∙ sym (⊎_elim (λ e. halts_return t o h e) (λ e. halts_ill t o h (ill (drop o t) e)) f.fault)

pub bad_is : (t : List ℕ) (o : ℕ) → (read_text t ≡ fault o) ↔ FirstFault t o
bad_is t o = (
  λ e.
      let m = subst (Means 0 t) e (meaning (length t) 0 t (le_refl (length t))) in
      let q : m.0 ≡ o = let p = m.1 in omega arith in
      subst (FirstFault t) q m.2,
  fault_read t o,
)

pub one_first : (t : List ℕ) (o p : ℕ) → FirstFault t o → FirstFault t p → o ≡ p
one_first t o p f g = let x = fault_read t o f in let y = fault_read t p g in cc
