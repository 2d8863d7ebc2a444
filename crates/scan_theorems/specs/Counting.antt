-- What is promised of a scan without a verdict source, "counting" in docs/SCOPE.md, for an auditor to read: with eight steps for each byte
-- and eight more it ends by itself. The theorems are in proofs/Counting.antt, under the names that stand beside them here.
use Rattle.std.specs.Prelude.{ℕ, ◌+◌, ◌-◌, ◌*◌, ◌%◌, ◌≤◌, ◌≡◌, true, false, List, [], ◌∷◌, eqb, length}
use Rattle.base.specs.If.{among}
use Rattle.base.specs.Number as number
use Rattle.base.specs.State as state
use Rattle.tokenizer.specs.declared.Job.{Job}
use Rattle.tokenizer.specs.Ranges.{job_in_range}
use Rattle.scan.specs.Answer.{answer_of}
use Rattle.scan.specs.Scan.{run_scan}
use Rattle.scan.specs.Call.{fresh_scan, numbers_listed, single_of}

-- 0, 1, 5, 6, 7 and 10: it never asks, is not paused, and no verdict ends it
abbrev pub counting_answers : List ℕ
counting_answers =
    state.done
    ∷ state.nok
    ∷ state.not_ascii
    ∷ state.eof
    ∷ state.unexpected
    ∷ state.full
    ∷ []

-- `a_scan_without_verdicts_ends`: of every scan from its start, over a page as long as its job says
abbrev pub CountingEnds : Type 0
CountingEnds =
    (page : List ℕ) (j : Job) (k : ℕ)
    → job_in_range j ≡ true
    → length page ≡ j.length
    → j.asks ≡ false
    → 8 * (j.length - j.start + 1) ≤ k
    → among counting_answers (answer_of (run_scan page k (fresh_scan page j))).number ≡ true

-- and 2, 3 and 4, for which a page is refused
abbrev pub counting_call_answers : List ℕ
counting_call_answers = number.too_long ∷ number.bad_start ∷ number.bad_text ∷ counting_answers

-- `a_single_scan_without_verdicts_ends`: of every single scan in one call whose numbers are listed, with that many steps; even flags name
-- no verdict source
abbrev pub SingleCountingEnds : Type 0
SingleCountingEnds =
    (bytes : List ℕ) (at n start construct kind flags allowance : ℕ) (words : List ℕ)
    → numbers_listed construct kind flags ≡ true
    → eqb (flags % 2) 1 ≡ false
    → allowance ≡ 8 * (n - start + 1)
    → among counting_call_answers (single_of bytes at n start construct kind flags allowance words).answer.number ≡ true
