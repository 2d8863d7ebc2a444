-- No more is due of a scan that begins than the most that a byte costs, for each byte from its start to the page's end and for that end;
-- and it is sound.
use Prim.Native.Nat.{ℕ, ◌+◌, ◌-◌, ◌*◌, ◌≤◌}
use mathlib.Core.Path.{◌≡◌, refl, ap}
use mathlib.Core.Bool.{true, false}
use mathlib.Core.List.{List}
use native.Mathlib.Omega.{arith}
use lib.ListN.{length}
use lib.Dec.{leb, eqb}
use borrow.Author.Tests.{leb-true}
use Rattle.base.specs.If.{when◌then◌else◌}
use Rattle.base.proofs.Choice.{case, both}
use Rattle.base.specs.Range.{within}
use Rattle.base.specs.Table.{find}
use Rattle.base.specs.State.{mdx_expression_start, mdx_jsx_start, mdx_esm_start}
use Rattle.base.specs.declared.Verdict.TheVariants.{Fine}
use Rattle.base.specs.Page.{page_limit}
use Rattle.tokenizer.specs.Registers.{no_regs}
use Rattle.tokenizer.specs.Ranges.{tag, esm, job_in_range, runs_in, is_answer, listed, is_return, verdict_in_range}
use Rattle.tokenizer.specs.declared.Job.{Job}
use Rattle.tokenizer.specs.declared.Tokenizer.{Tokenizer}
use Rattle.scan_theorems.proofs.Price.{Prices, steps, events}
use Rattle.scan_theorems.proofs.Rank.{awaits}
use Rattle.scan_theorems.proofs.Due.{ahead, esm_due, due_of, due}
use Rattle.scan_theorems.proofs.Parts.{whole}
use Rattle.scan_theorems.proofs.TagFalls.{due_most}
use Rattle.scan_theorems.proofs.Ahead.{elsewhere, looks_elsewhere}
use Rattle.scan_theorems.proofs.Sound.{Sound}

-- the state that a scan begins in
abbrev pub begins : ℕ → ℕ
begins construct = when eqb construct esm then mdx_esm_start else when eqb construct tag then mdx_jsx_start else mdx_expression_start

abbrev pub fresh : Job → Tokenizer
fresh j = record { job = j; state = begins j.construct; at = j.start; regs = no_regs; heard = Fine }

begins_on : (construct : ℕ) → awaits (begins construct) ≡ false
unfolding when◌then◌else◌
begins_on construct = case _ (eqb construct esm) (λ c. rw c) (λ c. case _ (eqb construct tag) (λ d. rw (c, d)) (λ d. rw (c, d)))

-- as much as n bytes and the page's end can cost
all_ahead : (p : Prices) (page : List ℕ) (at : ℕ) → ahead p page at + p.most ≡ p.most * (length page - at + 1)
unfolding ahead
all_ahead p page at = omega arith

due_begins : (p : Prices) (page : List ℕ) (j : Job) → due p page (fresh j) ≤ ahead p page j.start + p.most
unfolding due due_of esm_due find when◌then◌else◌
due_begins p page j =
    case _ (eqb j.construct esm) (λ c. rw c (omega (arith, p)))
    (λ c. due_most p page j.construct (begins j.construct) j.start no_regs c (begins_on j.construct))

due_fresh : (p : Prices) (page : List ℕ) (j : Job) → length page ≡ j.length → due p page (fresh j) ≤ p.most * (j.length - j.start + 1)
due_fresh p page j s =
    let e = ap (λ (n : ℕ). p.most * (n - j.start + 1)) s in
    omega (arith, e, due_begins p page j, all_ahead p page j.start)

pub steps_fresh : (page : List ℕ) (j : Job) → length page ≡ j.length → due steps page (fresh j) ≤ 8 * (j.length - j.start + 1)
unfolding steps
steps_fresh page j s = due_fresh steps page j s

pub events_fresh : (page : List ℕ) (j : Job) → length page ≡ j.length → due events page (fresh j) ≤ 6 * (j.length - j.start + 1)
unfolding events
events_fresh page j s = due_fresh events page j s

begins_listed : (construct : ℕ) → listed construct (begins construct) ≡ true
unfolding listed is_answer runs_in within when◌then◌else◌
begins_listed construct = case _ (eqb construct esm) (λ c. rw c) (λ c. case _ (eqb construct tag) (λ d. rw (c, d)) (λ d. rw (c, d)))

begins_elsewhere : (construct : ℕ) → looks_elsewhere (begins construct) ≡ true
unfolding when◌then◌else◌
begins_elsewhere construct = case _ (eqb construct esm) (λ c. rw c) (λ c. case _ (eqb construct tag) (λ d. rw (c, d)) (λ d. rw (c, d)))

pub start_within : (j : Job) → job_in_range j ≡ true → j.start ≤ j.length
unfolding job_in_range
start_within j h =
    let a = both (leb j.length page_limit) _ h in
    let b = both (leb j.start j.length) _ a.1 in
    leb-true j.start j.length b.0

pub length_short : (j : Job) → job_in_range j ≡ true → j.length ≤ page_limit
unfolding job_in_range
length_short j h = leb-true j.length page_limit (both (leb j.length page_limit) _ h).0

pub sound_fresh : (page : List ℕ) (j : Job) → job_in_range j ≡ true → length page ≡ j.length → Sound page (fresh j)
unfolding is_return verdict_in_range
sound_fresh page j h s =
    record {
      range = whole (fresh j) (record {
        at = start_within j h;
        job = h;
        state = begins_listed j.construct;
        regs = record {
          back = refl;
          depth = omega arith;
          prefix = omega arith;
          quote = omega arith;
          last = omega arith;
          site = omega arith;
          note = omega arith;
          saved = omega arith;
          body = omega arith;
          joint = omega arith;
        };
        heard = refl;
      });
      size = s;
      ahead = elsewhere (begins_elsewhere j.construct);
    }
