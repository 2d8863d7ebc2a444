-- A scan can end at its place with an answer that no state decides, as when the event buffer is full: it stays sound. Nothing is left to do
-- then, by `left_ended`.
use Prim.Native.Nat.{ℕ, ◌≤◌}
use mathlib.Core.Path.{◌≡◌}
use mathlib.Core.Bool.{true}
use mathlib.Core.List.{List}
use native.Mathlib.Omega.{arith}
use Rattle.base.proofs.Choice.{or_yes}
use Rattle.base.specs.State.{full}
use Rattle.tokenizer.specs.Ranges.{is_answer, listed}
use Rattle.tokenizer.specs.declared.Tokenizer.{Tokenizer}
use Rattle.scan_theorems.proofs.Parts.{parts, whole}
use Rattle.scan_theorems.proofs.Ahead.{elsewhere, low_elsewhere}
use Rattle.scan_theorems.proofs.Sound.{Sound}

abbrev pub ended : Tokenizer → ℕ → Tokenizer
ended t answer = record { job = t.job; state = answer; at = t.at; regs = t.regs; heard = t.heard }

pub sound_ended : (page : List ℕ) (t : Tokenizer) (answer : ℕ) → Sound page t → is_answer answer ≡ true → answer ≤ full → Sound page (ended t answer)
unfolding listed
sound_ended page t answer s a h =
    let p = parts t s.range in
    record {
      range = whole (ended t answer) (record { at = p.at; job = p.job; state = or_yes (is_answer answer) _ a; regs = p.regs; heard = p.heard });
      size = s.size;
      ahead = elsewhere (low_elsewhere answer (omega arith));
    }
