-- The ways of a single scan with steps enough, of a page whose check for this start is known.
use Prim.Native.Nat.{ℕ, ◌+◌, ◌-◌, ◌*◌}
use native.Mathlib.Omega.{arith}
use mathlib.Core.Path.{◌≡◌, sym, ap, ◌∙◌}
use mathlib.Core.List.{List}
use lib.ListN.{length, take, drop}
use Rattle.std.specs.Prelude.{Result, Ok, Err}
use Rattle.base.specs.If.{when◌then◌else◌}
use Rattle.page.specs.Page.{Admitted, page_check}
use Rattle.page.specs.declared.Fault.{Fault}
use Rattle.page.specs.declared.line.Line.{Line}
use Rattle.scan.specs.declared.Scan.{Scan}
use Rattle.scan.specs.declared.Answer.{Answer}
use Rattle.scan.specs.Answer.{said_by, refused}
use Rattle.scan.specs.Call.{Left, left, no_scan, numbers_listed, job_of, Begun, not_started, begun_by, begun_if, begin_of, run_of, whole_of}
use Rattle.scan.proofs.Begun.{begins}
use Rattle.scan.proofs.Singles.{single_ran, single_refused}

module _ (bytes : List ℕ) (at n start construct kind flags : ℕ) (words : List ℕ) where
  -- what is begun of a page that is so checked
  abbrev begun_if_lem : Result Line Fault → Begun
  begun_if_lem x = when numbers_listed construct kind flags then begun_if x (job_of construct kind flags n start (length words)) else not_started refused

  abbrev whole : Left
  whole = whole_of bytes at n start construct kind flags words

  -- the steps that are enough
  abbrev enough : ℕ
  enough = 8 * (n - start + 1)

  some_step : enough ≡ 0 → ⊥
  some_step z = omega (arith, z)

  module _ (x : Result Line Fault) (known : x ≡ page_check bytes at n start) (b : Result Scan Answer) (e : begun_by b ≡ begun_if_lem x) where
    begun : begun_by b ≡ begin_of bytes at n start construct kind flags (length words)
    unfolding begin_of
    begun = e ∙ ap begun_if_lem known

    pub whole_admitted : (s : Scan) → b ≡ Ok s → Admitted bytes at n start
    whole_admitted s f = (begins bytes at n start construct kind flags (length words) s (sym begun ∙ ap begun_by f)).admitted

    -- the run that is made, over the page as the code cuts it
    pub whole_ran : (s : Scan) (l : Left) (k : ℕ) → b ≡ Ok s → k ≡ enough → l ≡ run_of (take (at + n - at) (drop at bytes)) k s words → l ≡ whole
    whole_ran s l k f m r =
        single_ran bytes at n start construct kind flags enough words b begun s l f some_step
        (r ∙ ap (λ (j : ℕ). run_of (take (at + n - at) (drop at bytes)) j s words) m)

    pub whole_refused : (a : Answer) → b ≡ Err a → left no_scan (said_by a) words ≡ whole
    whole_refused a f = single_refused bytes at n start construct kind flags enough words b begun a f some_step
