-- What `collect` answers, by the way it took.
use Prim.Native.Nat.{ℕ, ◌-◌, ◌≤◌}
use native.Mathlib.Omega.{arith}
use mathlib.Core.Path.{◌≡◌}
use mathlib.Core.Bool.{true, false}
use mathlib.Core.List.{List}
use Rattle.std.specs.Prelude.{Option, Some, None}
use lib.Dec.{eqb}
use lib.ListN.{length}
use borrow.Author.Tests.{eqb-true}
use Rattle.base.specs.If.{when◌then◌else◌}
use Rattle.base.proofs.Choice.{both}
use Rattle.base.specs.Page.{page_limit}
use Rattle.body_places.specs.Body.{expression_cells}
use Rattle.tokenizer.specs.Ranges.{in_range}
use Rattle.scan.specs.declared.Scan.{Scan}
use Rattle.scan.specs.Call.{scan_in_range}
use Rattle.scan.proofs.Ranged.{ranged}
use Rattle.mdx_collect.specs.declared.Body.{Body}
use Rattle.mdx_collect.specs.declared.Body.TheVariants.{InPage}
use Rattle.mdx_collect.specs.Collect.{first, seam, only_prefix, asks_in, asked, collected_by, copied_of, collect_of}

-- the page has the scan's length, and the scan is in range
pub record Asks (s : Scan) (n : ℕ) : Type 0 where
  pub long : n ≡ s.tokenizer.job.length
  pub range : scan_in_range s ≡ true
  pub at : s.tokenizer.at ≤ n
  pub short : n ≤ page_limit

pub asks : (s : Scan) (n : ℕ) → asked s n ≡ true → Asks s n
unfolding asked scan_in_range
asks s n e =
    let a = both (asks_in s.tokenizer.state s.tokenizer.job.construct) _ e in
    let b = both (eqb n s.tokenizer.job.length) _ a.1 in
    let p = ranged s.tokenizer (both (in_range s.tokenizer) _ b.1).0 in
    let l = eqb-true n s.tokenizer.job.length b.0 in
    record { long = l; range = b.1; at = omega (arith, p.at, l); short = omega (arith, p.short, l) }

module _ (page : List ℕ) (s : Scan) (scratch : List ℕ) where
  pub not_asked : asked s (length page) ≡ false → collected_by None scratch ≡ collect_of page s scratch
  unfolding collect_of when◌then◌else◌
  not_asked e = rw e

  module _ (from end : ℕ) (a : asked s (length page) ≡ true) (f : from ≡ first s) (g : end ≡ seam s) where
    pub in_page : (n : ℕ) → n ≡ end - from → only_prefix page end s.tokenizer.at ≡ true → collected_by (Some (InPage from n)) scratch ≡ collect_of page s scratch
    unfolding collect_of when◌then◌else◌
    in_page n h o = rw (h, f, g) (rw (a, rw g at o))

    pub in_scratch : (r : Option Body) (out : List ℕ) → only_prefix page end s.tokenizer.at ≡ false → collected_by r out ≡ copied_of (expression_cells page from s.tokenizer.at) scratch → collected_by r out ≡ collect_of page s scratch
    unfolding collect_of when◌then◌else◌
    in_scratch r out o e = rw (a, rw g at o) (rw f at e)
