-- What a new scan tells: the numbers are listed, the page is admitted, its text is good, and the scan is a fresh one.
use Prim.Native.Nat.{ℕ}
use native.Mathlib.Omega.{arith}
use mathlib.Core.Path.{◌≡◌, refl, sym, ap, ◌∙◌}
use mathlib.Core.Bool.{true}
use mathlib.Core.List.{List}
use Rattle.std.specs.Prelude.{Result, Ok, Err}
use Rattle.base.specs.If.{when◌then◌else◌}
use Rattle.base.proofs.Choice.{case}
use Rattle.page.specs.declared.line.Line.{Line}
use Rattle.page.specs.Page.{page_of, page_check, Admitted}
use Rattle.page.specs.Text.{GoodText}
use Rattle.page.specs.declared.Fault.{Fault}
use Rattle.page.proofs.Answers.{admits_is, good_line}
use Rattle.scan.specs.declared.Scan.{Scan}
use Rattle.scan.specs.Answer.{Said}
use Rattle.scan.specs.Call.{job_of, fresh_in, fresh_scan, numbers_listed, started, not_started, begun_if, begin_of}

module _ (bytes : List ℕ) (at n start construct kind flags words : ℕ) where
  -- what a scan that was begun has
  pub record Begins (s : Scan) : Type 0 where
    pub fresh : s ≡ fresh_scan (page_of bytes at n) (job_of construct kind flags n start words)
    pub admitted : Admitted bytes at n start
    pub text : GoodText (page_of bytes at n)
    pub listed : numbers_listed construct kind flags ≡ true

  pub begins : (s : Scan) → begin_of bytes at n start construct kind flags words ≡ started s → Begins s
  unfolding begin_of when◌then◌else◌
  begins s e =
      case _ (numbers_listed construct kind flags)
      (λ l. by l (page_check bytes at n start) refl (rw l at e))
      (λ l. never (rw l at e))
    where
      never : {A : Type 0} {a : Said} → not_started a ≡ started s → A
      never x = let z : ◌≡◌ {A = ℕ} 0 1 = cc in absurd (omega (arith, z))

      by : numbers_listed construct kind flags ≡ true → (x : Result Line Fault) → page_check bytes at n start ≡ x → begun_if x (job_of construct kind flags n start words) ≡ started s → Begins s
      by l (Ok line) c x =
          let g = good_line bytes at n start line c in
          let e : fresh_in line (job_of construct kind flags n start words) ≡ s = cc in
          record {
            fresh = sym e ∙ ap (λ (k : Line). fresh_in k (job_of construct kind flags n start words)) g.0;
            admitted = g.1;
            text = ((admits_is bytes at n start).0 (c ∙ ap Ok g.0)).1;
            listed = l;
          }
      by l (Err fault) c x = never x
