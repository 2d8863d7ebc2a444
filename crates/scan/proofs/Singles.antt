-- The ways of a single scan in one call.
use Prim.Native.Nat.{ℕ, ◌+◌, ◌-◌, ◌≤◌}
use native.Mathlib.Omega.{arith}
use mathlib.Core.Path.{◌≡◌, refl, sym, ap, ◌∙◌}
use mathlib.Core.List.{List}
use lib.ListN.{length, take, drop}
use borrow.Author.Tests.{lt-ltb, le-ltb}
use Rattle.std.specs.Prelude.{Result, Ok, Err}
use Rattle.base.proofs.Choice.{if_yes, if_no}
use Rattle.page.specs.Page.{page_of}
use Rattle.scan.specs.declared.Scan.{Scan}
use Rattle.scan.specs.declared.Answer.{Answer}
use Rattle.scan.specs.Answer.{said_by, refused}
use Rattle.scan.specs.Call.{Left, left, no_scan, begun_by, begin_of, ran_from, run_of, single_of}
use Rattle.scan.proofs.Begun.{begins}

module _ (bytes : List ℕ) (at n start construct kind flags allowance : ℕ) (words : List ℕ) where
  abbrev single : Left
  single = single_of bytes at n start construct kind flags allowance words

  -- no allowance
  pub none_allowed : allowance ≡ 0 → left no_scan refused words ≡ single
  unfolding single_of
  none_allowed z = if_no _ _ _ _ _ (le-ltb 0 allowance (omega (arith, z))) refl

  module _ (b : Result Scan Answer) (e : begun_by b ≡ begin_of bytes at n start construct kind flags (length words)) where
    pub begun_lies : (s : Scan) → b ≡ Ok s → at + n ≤ length bytes
    begun_lies s f = (begins bytes at n start construct kind flags (length words) s (sym e ∙ ap begun_by f)).admitted.lies

    -- the run that is made, over the page as the code cuts it
    pub single_ran : (s : Scan) (l : Left) → b ≡ Ok s → (allowance ≡ 0 → ⊥) → l ≡ run_of (take (at + n - at) (drop at bytes)) allowance s words → l ≡ single
    unfolding single_of
    single_ran s l f z r =
        let m : at + n - at ≡ n = omega arith in
        if_yes _ _ _ _ _ (lt-ltb 0 allowance (omega (arith, z)))
        (r ∙ ap (λ (k : ℕ). run_of (take k (drop at bytes)) allowance s words) m ∙ sym (ap (λ (x : _). ran_from x (page_of bytes at n) allowance words) (sym e ∙ ap begun_by f)))

    pub single_refused : (a : Answer) → b ≡ Err a → (allowance ≡ 0 → ⊥) → left no_scan (said_by a) words ≡ single
    unfolding single_of
    single_refused a f z =
        if_yes _ _ _ _ _ (lt-ltb 0 allowance (omega (arith, z)))
        (sym (ap (λ (x : _). ran_from x (page_of bytes at n) allowance words) (sym e ∙ ap begun_by f)))
