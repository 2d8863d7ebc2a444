-- A new scan of a tag or an expression without a verdict source: it has passed no brace.
use Prim.Native.Nat.{ℕ, ◌%◌}
use mathlib.Core.Path.{◌≡◌, refl}
use mathlib.Core.Bool.{false, ◌&&◌}
use mathlib.Core.List.{List}
use lib.Dec.{eqb}
use Rattle.base.specs.Range.{within}
use Rattle.base.specs.State as state
use Rattle.mdx_expression.specs.Expression.{in_expression}
use Rattle.page.specs.Page.{page_of}
use Rattle.tokenizer.specs.declared.Job.{Job}
use Rattle.tokenizer.specs.Ranges.{esm}
use Rattle.scan.specs.declared.Scan.{Scan}
use Rattle.scan.specs.Call.{job_of, fresh_in, fresh_scan, started, begin_of}
use Rattle.scan.proofs.Begun.{begins}
use Rattle.scan_theorems.proofs.Tests.{clash}
use Rattle.scan_theorems.proofs.Calls.{page_long, job_in_range_lem}
use Rattle.scan_theorems.proofs.Counting.{first_is, silent_fresh}
use Rattle.brace_theorems.proofs.Turn.{inside, Held}
use Rattle.brace_theorems.proofs.Scans.{Going}

module _ (bytes : List ℕ) (at n start construct kind flags words : ℕ) where
  abbrev page : List ℕ
  page = page_of bytes at n

  abbrev job : Job
  job = job_of construct kind flags n start words

  held_fresh : Held page (fresh_scan page job).tokenizer
  unfolding fresh_in within
  held_fresh =
      record {
        outside = λ i. refl;
        passed = λ i. clash _ i (first_is (λ (name : ℕ). inside name ≡ false) construct refl refl refl);
        goes_on = first_is (λ (name : ℕ). (eqb name state.eof && eqb 0 in_expression) ≡ false) construct refl refl refl;
      }

  pub going_begun : (s : Scan) → eqb construct esm ≡ false → eqb (flags % 2) 1 ≡ false
      → begin_of bytes at n start construct kind flags words ≡ started s → Going page s
  unfolding fresh_in
  going_begun s c even e =
      let b = begins bytes at n start construct kind flags words s e in
      record {
        silent = rw b.fresh (silent_fresh page job (job_in_range_lem bytes at n start construct kind flags words b.listed b.admitted) (page_long bytes at n start b.admitted) even);
        low = rw b.fresh c;
        held = rw b.fresh held_fresh;
      }
