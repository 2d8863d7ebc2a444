-- docs/SCOPE.md, 'Bench cases': all of them, as one computed table under one claim. Each row states what the document states of it.
use Rattle.std.specs.Prelude.{ℕ, ◌≡◌, refl, Bool, true, ◌&&◌, List, [], ◌∷◌, length, get_or, eqb}
use Rattle.base.specs.If.{when◌then◌else◌, among}
use Rattle.base.specs.Range.{within}
use Rattle.base.specs.Table.{find}
use Rattle.base.specs.Page.{byte_at, after_line_feed}
use Rattle.base.specs.declared.Verdict.{Verdict}
use Rattle.base.specs.declared.Verdict.TheVariants.{Fine, Unfinished}
use Rattle.char_class.specs.Class.{is_whitespace, is_space_or_tab, is_id_start, is_id_cont}
use Rattle.page.specs.Line.{line_of, column_of}
use Rattle.mdx_esm.specs.Word.{spells, is_word}
use Rattle.tokenizer.specs.Decision.{esm_decision, attribute_decision, tag_decision, expression_decision, state_decision, decision}
use Rattle.tokenizer.specs.Moved.{moved}
use Rattle.tokenizer.specs.Ranges.{expression, tag, esm}
use Rattle.scan.specs.Scan.{choice, step_scan, run_scan}
use Rattle.scan.specs.Answer.{Said, verdict_refusal, refusal, answer_of}
use Rattle.scan.specs.Call.{job_of, fresh_in, fresh_scan, given_scan}
use Rattle.scan.specs.Alone.{run_alone}

-- flags: counting, or with a verdict source
pub counting : ℕ
counting = 0

pub verdicts : ℕ
verdicts = 1

-- a page scanned at 0, its verdicts, the number of its answer, and values of it: the place of each among those the answer carries
pub record Case : Type 0 where
  pub construct : ℕ
  pub flags : ℕ
  pub page : List ℕ
  pub told : List Verdict
  pub number : ℕ
  pub values : List (ℕ × ℕ)

-- flow kind, room for 50 events, more steps than any row takes
pub answer_to : Case → Said
answer_to c = answer_of (run_alone c.page 100 c.told (fresh_scan c.page (job_of c.construct 0 c.flags (length c.page) 0 200)))

pub all_of : List (ℕ × ℕ) → List ℕ → Bool
all_of [] values = true
all_of (v ∷ vs) values = eqb (get_or values v.0 0) v.1 && all_of vs values

pub right : Case → Bool
right c = eqb (answer_to c).number c.number && all_of c.values (answer_to c).values

pub all_right : List Case → Bool
all_right [] = true
all_right (c ∷ cs) = right c && all_right cs

-- the values of Done are its end, event count and steps; of 6 and 7 its place, line, column, where-number and, of 7, its note
pub bench : List Case
bench =
    -- {}
    record { construct = expression; flags = counting; page = 123 ∷ 125 ∷ []; told = []; number = 0; values = (0, 2) ∷ (1, 6) ∷ (2, 2) ∷ [] }
    ∷
    -- {a}
    record { construct = expression; flags = counting; page = 123 ∷ 97 ∷ 125 ∷ []; told = []; number = 0; values = (0, 3) ∷ (1, 8) ∷ (2, 5) ∷ [] }
    ∷
    -- {a{b}c}
    record { construct = expression; flags = counting; page = 123 ∷ 97 ∷ 123 ∷ 98 ∷ 125 ∷ 99 ∷ 125 ∷ []; told = []; number = 0; values = (0, 7) ∷ [] }
    ∷
    -- {a
    record { construct = expression; flags = counting; page = 123 ∷ 97 ∷ []; told = []; number = 6; values = (0, 2) ∷ (3, 19) ∷ [] }
    ∷
    -- {a}b}
    record { construct = expression; flags = counting; page = 123 ∷ 97 ∷ 125 ∷ 98 ∷ 125 ∷ []; told = []; number = 0; values = (0, 3) ∷ [] }
    ∷
    -- {a}b}
    record { construct = expression; flags = verdicts; page = 123 ∷ 97 ∷ 125 ∷ 98 ∷ 125 ∷ []; told = (Unfinished 1) ∷ Fine ∷ []; number = 0; values = (0, 5) ∷ [] }
    ∷
    -- <a>
    record { construct = tag; flags = counting; page = 60 ∷ 97 ∷ 62 ∷ []; told = []; number = 0; values = (0, 3) ∷ (1, 10) ∷ (2, 9) ∷ [] }
    ∷
    -- <>
    record { construct = tag; flags = counting; page = 60 ∷ 62 ∷ []; told = []; number = 0; values = (0, 2) ∷ (1, 6) ∷ (2, 5) ∷ [] }
    ∷
    -- < a>
    record { construct = tag; flags = counting; page = 60 ∷ 32 ∷ 97 ∷ 62 ∷ []; told = []; number = 1; values = [] }
    ∷
    -- <a.b:c>
    record { construct = tag; flags = counting; page = 60 ∷ 97 ∷ 46 ∷ 98 ∷ 58 ∷ 99 ∷ 62 ∷ []; told = []; number = 7; values = (0, 4) ∷ (3, 5) ∷ [] }
    ∷
    -- <a:b.c>
    record { construct = tag; flags = counting; page = 60 ∷ 97 ∷ 58 ∷ 98 ∷ 46 ∷ 99 ∷ 62 ∷ []; told = []; number = 7; values = (0, 4) ∷ (3, 8) ∷ [] }
    ∷
    -- <a b="c">
    record { construct = tag; flags = counting; page = 60 ∷ 97 ∷ 32 ∷ 98 ∷ 61 ∷ 34 ∷ 99 ∷ 34 ∷ 62 ∷ []; told = []; number = 0; values = (0, 9) ∷ [] }
    ∷
    -- <a b=<
    record { construct = tag; flags = counting; page = 60 ∷ 97 ∷ 32 ∷ 98 ∷ 61 ∷ 60 ∷ []; told = []; number = 7; values = (0, 5) ∷ (3, 16) ∷ (4, 4) ∷ [] }
    ∷
    -- <!--
    record { construct = tag; flags = counting; page = 60 ∷ 33 ∷ 45 ∷ 45 ∷ []; told = []; number = 7; values = (0, 1) ∷ (3, 1) ∷ (4, 1) ∷ [] }
    ∷
    -- <a b="c
    record { construct = tag; flags = counting; page = 60 ∷ 97 ∷ 32 ∷ 98 ∷ 61 ∷ 34 ∷ 99 ∷ []; told = []; number = 6; values = (0, 7) ∷ (3, 17) ∷ [] }
    ∷
    -- import a
    record { construct = esm; flags = verdicts; page = 105 ∷ 109 ∷ 112 ∷ 111 ∷ 114 ∷ 116 ∷ 32 ∷ 97 ∷ []; told = Fine ∷ []; number = 0; values = (0, 8) ∷ [] }
    ∷
    -- imports a
    record { construct = esm; flags = verdicts; page = 105 ∷ 109 ∷ 112 ∷ 111 ∷ 114 ∷ 116 ∷ 115 ∷ 32 ∷ 97 ∷ []; told = Fine ∷ []; number = 1; values = [] }
    ∷ []

pub bench_cases : all_right bench ≡ true
unfolding
    all_right
    bench
    right
    all_of
    answer_to
    counting
    verdicts
    run_alone
    run_scan
    step_scan
    choice
    moved
    decision
    state_decision
    expression_decision
    tag_decision
    attribute_decision
    esm_decision
    find
    byte_at
    after_line_feed
    is_word
    spells
    is_whitespace
    is_space_or_tab
    is_id_start
    is_id_cont
    within
    among
    answer_of
    refusal
    verdict_refusal
    fresh_in
    given_scan
    line_of
    column_of
    when◌then◌else◌
bench_cases = refl
