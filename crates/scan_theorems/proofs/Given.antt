-- A verdict is given to a tokenizer that asks: as much is due as before, and it stays sound.
use Prim.Native.Nat.{ℕ}
use mathlib.Core.Path.{◌≡◌, refl}
use mathlib.Core.Bool.{true}
use mathlib.Core.List.{List}
use lib.Dec.{eqb}
use Rattle.base.specs.If.{when◌then◌else◌}
use Rattle.base.proofs.Choice.{if_is, case}
use Rattle.base.specs.Range.{within}
use Rattle.base.specs.Table.{find}
use Rattle.base.specs.State.{asking, mdx_expression_verdict, mdx_esm_verdict}
use Rattle.base.specs.declared.Verdict.{Verdict}
use Rattle.tokenizer.specs.Ranges.{esm, runs_in, is_answer, listed, is_return, verdict_in_range}
use Rattle.tokenizer.specs.declared.Tokenizer.{Tokenizer}
use Rattle.scan_theorems.proofs.Price.{Prices}
use Rattle.scan_theorems.proofs.Rank.{rank}
use Rattle.scan_theorems.proofs.Due.{esm_due, due_of, due}
use Rattle.scan_theorems.proofs.Parts.{parts, whole}
use Rattle.scan_theorems.proofs.Ahead.{elsewhere, looks_elsewhere}
use Rattle.scan_theorems.proofs.Sound.{Sound}

-- the state that applies a verdict
abbrev pub applies : ℕ → ℕ
applies construct = when eqb construct esm then mdx_esm_verdict else mdx_expression_verdict

abbrev pub given : Tokenizer → Verdict → Tokenizer
given t v = record { job = t.job; state = applies t.job.construct; at = t.at; regs = t.regs; heard = v }

-- what is due where a verdict is applied is what is due where it is asked for
applied : (p : Prices) (page : List ℕ) (t : Tokenizer) → due_of p page t.job.construct (applies t.job.construct) t.at t.regs ≡ due_of p page t.job.construct asking t.at t.regs
unfolding due_of esm_due rank is_return within find when◌then◌else◌
applied p page t = case _ (eqb t.job.construct esm) (λ c. rw c) (λ c. rw c)

pub due_given : (p : Prices) (page : List ℕ) (t : Tokenizer) (v : Verdict) → t.state ≡ asking → due p page (given t v) ≡ due p page t
unfolding due
due_given p page t v e = rw e (applied p page t)

applies_listed : (construct : ℕ) → listed construct (applies construct) ≡ true
unfolding listed is_answer runs_in within when◌then◌else◌
applies_listed construct = case _ (eqb construct esm) (λ c. rw c) (λ c. rw c)

applies_elsewhere : (construct : ℕ) → looks_elsewhere (applies construct) ≡ true
applies_elsewhere construct = if_is ℕ (λ (k : ℕ). looks_elsewhere k ≡ true) (eqb construct esm) mdx_esm_verdict mdx_expression_verdict (λ c. refl) (λ c. refl)

pub sound_given : (page : List ℕ) (t : Tokenizer) (v : Verdict) → Sound page t → verdict_in_range v ≡ true → Sound page (given t v)
sound_given page t v s h =
    let p = parts t s.range in
    record {
      range = whole (given t v) (record { at = p.at; job = p.job; state = applies_listed t.job.construct; regs = p.regs; heard = h });
      size = s.size;
      ahead = elsewhere (applies_elsewhere t.job.construct);
    }
