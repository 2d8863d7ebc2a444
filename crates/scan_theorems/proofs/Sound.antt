-- What every tokenizer of a scan over the page is: in range, of a page as long as its job says, and, in the look-ahead of an ESM block,
-- where that has begun.
use Prim.Native.Nat.{ℕ}
use mathlib.Core.Path.{◌≡◌}
use mathlib.Core.Bool.{true}
use mathlib.Core.List.{List}
use lib.ListN.{length}
use Rattle.tokenizer.specs.Ranges.{in_range}
use Rattle.tokenizer.specs.declared.Tokenizer.{Tokenizer}
use Rattle.scan_theorems.proofs.Ahead.{Ahead}

pub record Sound (page : List ℕ) (t : Tokenizer) : Type 0 where
  pub range : in_range t ≡ true
  pub size : length page ≡ t.job.length
  pub ahead : Ahead page t.state t.at t.regs.saved
