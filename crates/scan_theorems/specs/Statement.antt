-- What is promised of every scan, for an auditor to read: how many steps it makes, which answers it gives and exactly when, and that the
-- states that calls give are in range. The theorems are in proofs/, under the names that stand beside them here.
use Rattle.std.specs.Prelude.{ℕ, zero, suc, ◌+◌, ◌-◌, ◌*◌, ◌≤◌, ◌<◌, ◌≡◌, true, false, List, [], ◌∷◌, eqb, length, get_or}
use Rattle.base.specs.If.{when◌then◌else◌, among}
use Rattle.base.specs.Number as number
use Rattle.base.specs.State as state
use Rattle.base.specs.State.{rests}
use Rattle.base.specs.declared.Verdict.{Verdict}
use Rattle.tokenizer.specs.declared.Job.{Job}
use Rattle.tokenizer.specs.Moved.{one_more, most_braces}
use Rattle.tokenizer.specs.Ranges.{esm, job_in_range, verdict_in_range}
use Rattle.scan.specs.declared.Scan.{Scan}
use Rattle.scan.specs.Answer.{Said, answer_of}
use Rattle.scan.specs.Scan.{step_scan, run_scan}
use Rattle.scan.specs.Call.{scan_in_range, started, begin_of, run_of, give_of, single_of, fresh_scan}
use Rattle.scan.specs.Alone.{told_scan, run_alone}
use Rattle.scan_theorems.specs.Rows.{RowsOf}

-- all verdicts can be heard
abbrev pub Heard : List Verdict → Type 0
Heard [] = Unit {0}
Heard (v ∷ vs) = (verdict_in_range v ≡ true) × Heard vs

-- Of every scan from its start: a page as long as its job says, any allowance k up to each verdict and after the last, any verdicts. Where k
-- is small the scan is paused, so this speaks of paused scans too.
abbrev pub OfEveryScan : (List ℕ → Job → ℕ → List Verdict → Type 0) → Type 0
OfEveryScan P = (page : List ℕ) (j : Job) (k : ℕ) (vs : List Verdict) → job_in_range j ≡ true → length page ≡ j.length → Heard vs → P page j k vs

-- ---- steps: `at_most_eight_a_byte`

-- the steps that a run of at most k steps makes
unfoldable pub made : List ℕ → ℕ → Scan → ℕ
made page zero s = 0
made page (suc k) s =
    let r = made page k (step_scan page s) in
    when rests s.tokenizer.state then 0 else r + 1

-- and a whole scan, with the verdicts that it is given, applying them included
unfoldable pub made_alone : List ℕ → ℕ → List Verdict → Scan → ℕ
made_alone page k [] s = made page k s
made_alone page k (v ∷ vs) s = made page k s + made_alone page k vs (told_scan (run_scan page k s) v)

-- docs/SCOPE.md, 'Steps': "A run over n bytes takes at most 8(n+1) steps", and "The reported count equals the definition's".
abbrev pub FewSteps : Type 0
FewSteps =
    OfEveryScan λ page j k vs.
    ((run_alone page k vs (fresh_scan page j)).steps ≡ made_alone page k vs (fresh_scan page j)) × (made_alone page k vs (fresh_scan page j) ≤ 8 * (j.length - j.start + 1))

-- ---- depth: `no_depth_is_cut`

-- no more braces are open than bytes are passed, so that wherever a byte is left one brace more is counted as one more (docs/DECISIONS.md, 21)
abbrev pub DepthCounted : Type 0
DepthCounted =
    OfEveryScan λ page j k vs.
    eqb j.construct esm ≡ false
    → let t = (run_alone page k vs (fresh_scan page j)).tokenizer in
    (t.regs.depth ≤ t.at) × (t.at < j.length → one_more t.regs.depth most_braces ≡ t.regs.depth + 1)

-- ---- answers: `a_scan_answers_by_the_table`

-- 0, 1, 5 to 10, Asking or Paused
abbrev pub answers_of_scans : List ℕ
answers_of_scans =
    state.done
    ∷ state.nok
    ∷ state.not_ascii
    ∷ state.eof
    ∷ state.unexpected
    ∷ state.verdict_error
    ∷ state.verdict_eof
    ∷ state.full
    ∷ state.asking
    ∷ number.paused
    ∷ []

-- the where-number that 6 and 7 carry, behind the place, its line and its column
abbrev pub where_of : Said → ℕ
where_of a = get_or a.values 3 0

-- nothing else is answered, and never with where-number 0: what the Rust calls unreachable is unreachable
abbrev pub ByTheTable : Type 0
ByTheTable =
    OfEveryScan λ page j k vs.
    let a = answer_of (run_alone page k vs (fresh_scan page j)) in
    (among answers_of_scans a.number ≡ true) × (among (state.eof ∷ state.unexpected ∷ []) a.number ≡ true → 1 ≤ where_of a)

-- ---- rows 5, 6, 7 and 10: `exact_rows`

-- each is given by a step exactly when Rows.antt says, for every page and every scan in range, made up or not
abbrev pub ExactRows : Type 0
ExactRows = (page : List ℕ) (s : Scan) → scan_in_range s ≡ true → rests s.tokenizer.state ≡ false → RowsOf page s

-- ---- ranges: `ranges_are_closed`

-- "a state outside the ranges docs/ lists (all that calls give are inside)": a call that is handed a scan in range gives one in range, and so
-- does a new one
pub record RangesClosed : Type 0 where
  pub new : (bytes : List ℕ) (at n start construct kind flags words : ℕ) (s : Scan) → begin_of bytes at n start construct kind flags words ≡ started s → scan_in_range s ≡ true
  pub run : (page : List ℕ) (allowance : ℕ) (s : Scan) (words : List ℕ) → scan_in_range s ≡ true → scan_in_range (run_of page allowance s words).scan ≡ true
  pub give : (s : Scan) (v : Verdict) → scan_in_range s ≡ true → scan_in_range (give_of s v).scan ≡ true
  pub single : (bytes : List ℕ) (at n start construct kind flags allowance : ℕ) (words : List ℕ) → scan_in_range (single_of bytes at n start construct kind flags allowance words).scan ≡ true
