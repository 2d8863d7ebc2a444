-- What is promised of event room, for an auditor to read: how many events a scan writes, and with which room it never answers 10. The
-- theorems are in proofs/Room.antt, under the names that stand beside them here. docs/SCOPE.md, 'Event room': "a scan over n bytes from its
-- start writes at most 6(n+1) events, so never answers 10 with that room".
use Rattle.std.specs.Prelude.{ℕ, ◌-◌, ◌≤◌, ◌≡◌, List, [], ◌∷◌, length}
use Rattle.base.specs.Number as number
use Rattle.base.specs.State as state
use Rattle.page.specs.Page.{page_of}
use Rattle.events.specs.Words.{room_in}
use Rattle.room.specs.Room.{events_enough, enough_of}
use Rattle.scan.specs.declared.Scan.{Scan}
use Rattle.scan.specs.Answer.{Said, said, answer_of}
use Rattle.scan.specs.Call.{started, begin_of, fresh_scan, single_of}
use Rattle.scan.specs.Statement.{Call, scan_after}
use Rattle.scan.specs.Alone.{run_alone, events_alone}
use Rattle.scan_theorems.specs.Lines.{OverPage}
use Rattle.scan_theorems.specs.Statement.{OfEveryScan}

-- ---- any room

-- `at_most_six_a_byte`: n counts from the start to the page's end, and 6(n+1) is `events_enough n`
abbrev pub FewEvents : Type 0
FewEvents = OfEveryScan λ page j k vs. length (events_alone page k vs (fresh_scan page j)) ≤ events_enough (j.length - j.start)

-- 10 is not answered
abbrev pub NotFull : Said → Type 0
NotFull a = a.number ≡ state.full → ⊥

-- `room_is_enough`: so with room for that many
abbrev pub NeverFull : Type 0
NeverFull = OfEveryScan λ page j k vs. events_enough (j.length - j.start) ≤ room_in j.words → NotFull (answer_of (run_alone page k vs (fresh_scan page j)))

-- ---- the room that the call says

-- the call `words_enough` says so many words for a page of n bytes
abbrev pub SaysWords : ℕ → ℕ → Type 0
SaysWords n w = enough_of n ≡ said number.enough (w ∷ [])

-- `the_words_are_enough`: a single scan of such a page in one call, over so many words or more, whatever its numbers
abbrev pub SingleNeverFull : Type 0
SingleNeverFull =
    (bytes : List ℕ) (at n start construct kind flags allowance : ℕ) (words : List ℕ) (w : ℕ)
    → SaysWords n w
    → w ≤ length words
    → NotFull (single_of bytes at n start construct kind flags allowance words).answer

-- `calls_find_words_enough`: and a scan of such a page after any calls, if the runs are lent the page that was admitted
abbrev pub CallsNeverFull : Type 0
CallsNeverFull =
    (bytes : List ℕ) (at n start construct kind flags words w : ℕ) (s : Scan)
    → SaysWords n w
    → w ≤ words
    → begin_of bytes at n start construct kind flags words ≡ started s
    → (calls : List Call) (lent : List ℕ)
    → OverPage (page_of bytes at n) calls
    → NotFull (answer_of (scan_after calls s lent))
