-- What the look-ahead of an ESM block keeps: it begins at a line ending, whose place is saved, and passes spaces and tabs only. So what
-- it passes is the run of spaces and tabs that begins behind the saved place.
use Prim.Native.Nat.{ℕ, ◌+◌, ◌≤◌, ◌<◌}
use mathlib.Core.Path.{◌≡◌, refl}
use mathlib.Core.Bool.{Bool, true, false, ◌||◌}
use mathlib.Core.List.{List}
use lib.ListN.{length}
use lib.Dec.{leb}
use borrow.Author.Tests.{le-leb}
use Rattle.base.proofs.Choice.{or_yes}
use Rattle.base.specs.State.{mdx_esm_line_start, mdx_esm_continuation_start, mdx_esm_blank_line_before, mdx_esm_blank_line, mdx_esm_at_end}
use Rattle.scan_theorems.proofs.Tests.{clash}
use Rattle.scan_theorems.proofs.Blanks.{blanks}

-- a byte stands where the block goes on, and where the look-ahead begins; what it has passed and what it will pass are one run
pub record Ahead (page : List ℕ) (name at saved : ℕ) : Type 0 where
  pub goes_on : name ≡ mdx_esm_continuation_start → at < length page
  pub begins : name ≡ mdx_esm_blank_line_before → (at < length page) × (saved ≡ at)
  pub passes : name ≡ mdx_esm_blank_line → (saved < at) × (blanks page (saved + 1) + (saved + 1) ≡ blanks page at + at)

-- no other state looks ahead
abbrev pub looks_elsewhere : ℕ → Bool
looks_elsewhere name = leb name mdx_esm_line_start || leb mdx_esm_at_end name

pub elsewhere : {page : List ℕ} {name at saved : ℕ} → looks_elsewhere name ≡ true → Ahead page name at saved
elsewhere h =
    record {
      goes_on = λ k. clash false (rw k at h) refl;
      begins = λ k. clash false (rw k at h) refl;
      passes = λ k. clash false (rw k at h) refl;
    }

-- and so none up to the start of a line
pub low_elsewhere : (name : ℕ) → name ≤ mdx_esm_line_start → looks_elsewhere name ≡ true
low_elsewhere name h = or_yes (leb name mdx_esm_line_start) _ (le-leb name mdx_esm_line_start h)
