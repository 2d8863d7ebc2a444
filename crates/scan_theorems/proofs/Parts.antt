-- What `in_range` says of a tokenizer, part by part, as facts that a proof can use; and the way back from the facts to the test.
use Prim.Native.Nat.{ℕ, ◌≤◌}
use mathlib.Core.Path.{◌≡◌}
use mathlib.Core.Bool.{true, false, ◌&&◌}
use native.Mathlib.Omega.{arith}
use lib.Dec.{leb, eqb}
use borrow.Author.Tests.{leb-true, le-leb, ltb-false, ne_eqb}
use Rattle.base.specs.If.{when◌then◌else◌}
use Rattle.base.proofs.Choice.{both}
use Rattle.base.proofs.Ranges.{above}
use Rattle.base.specs.State.{asking, rests}
use Rattle.base.specs.Page.{page_limit}
use Rattle.tokenizer.specs.Ranges.{esm, job_in_range, runs_in, is_answer, listed, is_return, numbers_in_range, places_in_range, regs_in_range, verdict_in_range, in_range}
use Rattle.tokenizer.specs.declared.Regs.{Regs}
use Rattle.tokenizer.specs.declared.Tokenizer.{Tokenizer}
use Rattle.scan_theorems.proofs.EveryState.{of_tags, of_esm}

-- the registers of a scan over n bytes
pub record RegsIn (n : ℕ) (r : Regs) : Type 0 where
  pub back : is_return r.back ≡ true
  pub depth : r.depth ≤ page_limit
  pub prefix : r.prefix ≤ 2
  pub quote : r.quote ≤ 255
  pub last : r.last ≤ 65535
  pub site : r.site ≤ 19
  pub note : r.note ≤ 4
  pub saved : r.saved ≤ n
  pub body : r.body ≤ n
  pub joint : r.joint ≤ n

pub regs_in_lem : (n : ℕ) (r : Regs) → regs_in_range n r ≡ true → RegsIn n r
unfolding regs_in_range numbers_in_range places_in_range
regs_in_lem n r h =
    let a = both (is_return r.back) (numbers_in_range r && places_in_range n r) h in
    let b = both (numbers_in_range r) (places_in_range n r) a.1 in
    let b₁ = both (leb r.depth page_limit) _ b.0 in
    let b₂ = both (leb r.prefix 2) _ b₁.1 in
    let b₃ = both (leb r.quote 255) _ b₂.1 in
    let b₄ = both (leb r.last 65535) _ b₃.1 in
    let b₅ = both (leb r.site 19) _ b₄.1 in
    let c₁ = both (leb r.saved n) _ b.1 in
    let c₂ = both (leb r.body n) _ c₁.1 in
    record {
      back = a.0;
      depth = leb-true r.depth page_limit b₁.0;
      prefix = leb-true r.prefix 2 b₂.0;
      quote = leb-true r.quote 255 b₃.0;
      last = leb-true r.last 65535 b₄.0;
      site = leb-true r.site 19 b₅.0;
      note = leb-true r.note 4 b₅.1;
      saved = leb-true r.saved n c₁.0;
      body = leb-true r.body n c₂.0;
      joint = leb-true r.joint n c₂.1;
    }

pub regs_out : (n : ℕ) (r : Regs) → RegsIn n r → regs_in_range n r ≡ true
unfolding regs_in_range numbers_in_range places_in_range
regs_out n r h =
    rw (
      h.back,
      le-leb r.depth page_limit h.depth,
      le-leb r.prefix 2 h.prefix,
      le-leb r.quote 255 h.quote,
      le-leb r.last 65535 h.last,
      le-leb r.site 19 h.site,
      le-leb r.note 4 h.note,
      le-leb r.saved n h.saved,
      le-leb r.body n h.body,
      le-leb r.joint n h.joint,
    )

pub record Parts (t : Tokenizer) : Type 0 where
  pub at : t.at ≤ t.job.length
  pub job : job_in_range t.job ≡ true
  pub state : listed t.job.construct t.state ≡ true
  pub regs : RegsIn t.job.length t.regs
  pub heard : verdict_in_range t.heard ≡ true

pub parts : (t : Tokenizer) → in_range t ≡ true → Parts t
unfolding in_range
parts t h =
    let a = both (leb t.at t.job.length) _ h in
    let b = both (job_in_range t.job) _ a.1 in
    let c = both (listed t.job.construct t.state) _ b.1 in
    let d = both (regs_in_range t.job.length t.regs) _ c.1 in
    record {
      at = leb-true t.at t.job.length a.0;
      job = b.0;
      state = c.0;
      regs = regs_in_lem t.job.length t.regs d.0;
      heard = d.1;
    }

pub whole : (t : Tokenizer) → Parts t → in_range t ≡ true
unfolding in_range
whole t p = rw (le-leb t.at t.job.length p.at, p.job, p.state, regs_out t.job.length t.regs p.regs, p.heard)

-- a listed state that does not rest runs
running : (construct name : ℕ) → listed construct name ≡ true → rests name ≡ false → runs_in construct name ≡ true
unfolding listed is_answer
running construct name h r =
    let l : 32 ≤ name = ltb-false name 32 r in
    rw (above 0 1 name (omega arith), above 5 10 name (omega arith), ne_eqb name asking (λ e. omega arith)) at h

-- in an expression or a tag, and in an ESM block
pub low : (construct name : ℕ) → eqb construct esm ≡ false → listed construct name ≡ true → rests name ≡ false → of_tags name ≡ true
unfolding runs_in when◌then◌else◌
low construct name c h r = rw c at (running construct name h r)

pub high : (construct name : ℕ) → eqb construct esm ≡ true → listed construct name ≡ true → rests name ≡ false → of_esm name ≡ true
unfolding runs_in when◌then◌else◌
high construct name c h r = rw c at (running construct name h r)
