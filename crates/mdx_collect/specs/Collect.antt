-- The body that an asking scan hands over, read from page and state alone.
--
-- docs/SCOPE.md, 'Body': "The data and line endings in order, without line prefixes, a tab of which a prefix takes V columns as 4 - V spaces. The
-- reader gets back a part of the page when no prefix stands between two of its bytes, else a part of the lent scratch it was copied to. It is
-- asked of a state that is Asking, its page inside the lent bytes, else 12, and read from page and state alone. Scratch too short, where needed:
-- 12, scratch untouched; past the copy it stays as lent."
--
-- The crate collects the events (`util/mdx_collect.rs`). That what is said here is the same, for every scan that calls gave, is the theorem
-- `the_body_is_what_the_events_say` of crate `body_theorems`.
use Rattle.std.specs.Prelude.{ℕ, ◌+◌, ◌-◌, ◌/◌, ◌≤◌, ◌≡◌, Bool, true, false, ◌&&◌, ◌||◌, List, [], ◌∷◌, leb, eqb, length, Option, Some, None}
use Rattle.std.proofs.lemmas.List.Edits.{sets}
use Rattle.base.specs.If.{when◌then◌else◌}
use Rattle.base.specs.Number as number
use Rattle.base.specs.State.{asking}
use Rattle.body_places.specs.Body.{Cell, bytes_of, cells_from, expression_cells, part_cells}
use Rattle.page.specs.Page.{lies_inside, page_of}
use Rattle.tokenizer.specs.Ranges.{esm}
use Rattle.scan.specs.declared.Scan.{Scan}
use Rattle.scan.specs.Answer.{Said, said, refused}
use Rattle.scan.specs.Call.{scan_in_range, verdict_state}
use Rattle.mdx_collect.specs.declared.Body.{Body}
use Rattle.mdx_collect.specs.declared.Body.TheVariants.{InPage, InScratch}

-- ---- the answers, by number and values

abbrev pub said_by : Option Body → Said
said_by (Some (InPage at n)) = said 38 (at ∷ n ∷ [])
said_by (Some (InScratch n)) = said 39 (n ∷ [])
said_by None = said 12 []

-- it is no refusal
abbrev pub handed_over : Option Body → Bool
handed_over (Some body) = true
handed_over None = false

-- ---- where the body is

-- where it begins: an ESM block at its word, an expression after its `{`
abbrev pub first : Scan → ℕ
first s = when eqb s.tokenizer.job.construct esm then s.tokenizer.job.start else s.tokenizer.regs.body

-- no line prefix stands before this place: the place of the first one (a register of the scan), or the place that asks. Of an ESM block
-- nothing is left out
abbrev pub seam : Scan → ℕ
seam s =
    when eqb s.tokenizer.job.construct esm then s.tokenizer.at
    else when eqb s.tokenizer.regs.joint 0 then s.tokenizer.at
    else s.tokenizer.regs.joint

-- no byte of the body stands from a line prefix at `from` on: there are at most two spaces. (Of a tab some columns are always left.)
unfoldable pub only_prefix : List ℕ → ℕ → ℕ → Bool
only_prefix page from to = eqb (length (cells_from page 2 0 from (to - from))) 0

-- no prefix stands between two bytes of the body
abbrev pub unbroken : List ℕ → Scan → Bool
unbroken page s = only_prefix page (seam s) s.tokenizer.at

-- the body's bytes, with the place of each
unfoldable pub body_cells : List ℕ → Scan → List Cell
body_cells page s =
    when unbroken page s then part_cells page (first s) (seam s - first s)
    else expression_cells page (first s) s.tokenizer.at

unfoldable pub body_of : List ℕ → Scan → List ℕ
body_of page s = bytes_of (body_cells page s)

-- ---- the call that copies

-- a state that is Asking, also with a verdict kept and not applied
abbrev pub asks_in : ℕ → ℕ → Bool
asks_in name construct = eqb name asking || eqb name (verdict_state construct)

-- over a page of the scan's length
unfoldable pub asked : Scan → ℕ → Bool
asked s n =
    asks_in s.tokenizer.state s.tokenizer.job.construct
    && (eqb n s.tokenizer.job.length
    && scan_in_range s)

-- what the call leaves: where the body is, and the scratch
pub record Collected : Type 0 where
  pub answer : Said
  pub scratch : List ℕ

abbrev pub collected : Said → List ℕ → Collected
collected answer scratch = record { answer = answer; scratch = scratch }

-- as the code hands it back
abbrev pub collected_by : Option Body → List ℕ → Collected
collected_by b scratch = collected (said_by b) scratch

-- the body copied to the front of the scratch
abbrev pub copied_of : List Cell → List ℕ → Collected
copied_of cells scratch =
    when leb (length cells) (length scratch) then collected (said number.in_scratch (length cells ∷ [])) (sets scratch 0 (bytes_of cells))
    else collected refused scratch

unfoldable pub collect_of : List ℕ → Scan → List ℕ → Collected
collect_of page s scratch =
    when asked s (length page) then
    (when unbroken page s then collected (said number.in_page (first s ∷ (seam s - first s) ∷ [])) scratch
    else copied_of (expression_cells page (first s) s.tokenizer.at) scratch)
    else collected refused scratch

-- ---- the part that is read

-- n bytes from a place on; nothing, where they are not there
abbrev pub piece_of : List ℕ → ℕ → ℕ → List ℕ
piece_of bytes at n = when lies_inside (length bytes) at n then page_of bytes at n else []

abbrev pub part_of : List ℕ → List ℕ → Option Body → List ℕ
part_of page scratch (Some (InPage at n)) = piece_of page at n
part_of page scratch (Some (InScratch n)) = piece_of scratch 0 n
part_of page scratch None = []

-- how long a scratch is always enough for a page of n bytes: a half more, since a tab that is split may be longer than it was
abbrev pub scratch_enough : ℕ → ℕ
scratch_enough n = n + n / 2

-- `a_scratch_is_enough`: with one, no body is refused for its length, of any state
abbrev pub ScratchEnough : Type 0
ScratchEnough =
    (page : List ℕ) (s : Scan) (scratch : List ℕ)
    → asked s (length page) ≡ true → scratch_enough (length page) ≤ length scratch
    → ((collect_of page s scratch).answer ≡ refused) → ⊥

-- what is read after a call that is not refused is the body: for every page, state and scratch
abbrev pub PartIsBody : Type 0
PartIsBody =
    (page : List ℕ) (s : Scan) (scratch : List ℕ) (b : Option Body) (out : List ℕ)
    → collected_by b out ≡ collect_of page s scratch
    → handed_over b ≡ true → part_of page out b ≡ body_of page s
