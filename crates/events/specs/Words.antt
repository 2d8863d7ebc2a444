-- Events in lent words. docs/SCOPE.md, 'Line and column' and 'Tabs': "An event is four 32-bit words: kind times 8, plus twice the columns of an
-- unfinished tab passed there (0 to 3), plus 1 for an exit; then the byte offset, counted like all places from the page's first byte; then
-- its line and its column."
use Rattle.std.specs.Prelude.{ℕ, zero, suc, ◌+◌, ◌*◌, ◌/◌, ◌%◌, Bool, true, false, List, [], ◌∷◌, eqb, get_or}
use Rattle.std.proofs.lemmas.List.Edits.{sets}
use Rattle.base.specs.declared.InTab.{InTab}
use Rattle.base.specs.Tab.{columns_of}
pub use Rattle.base.specs.Tab.{in_tab}
use Rattle.base.specs.declared.Mark.{Mark}
use Rattle.base.specs.declared.Mark.TheVariants.{Enter, Exit, Leave}
use Rattle.events.specs.declared.Event.{Event}
use Rattle.events.specs.Event.{point, event}

-- the words of an event
abbrev pub width : ℕ
width = 4

-- how many events fit in a buffer of so many words
abbrev pub room_in : ℕ → ℕ
room_in words = words / width

-- ---- writing

abbrev pub kind_word : ℕ → InTab → Bool → ℕ
kind_word kind tab false = kind * 8 + columns_of tab * 2
kind_word kind tab true = kind * 8 + columns_of tab * 2 + 1

abbrev pub encode : List Event → List ℕ
encode [] = []
encode (e ∷ es) = kind_word e.kind e.tab e.exit ∷ e.offset ∷ e.line ∷ e.column ∷ encode es

-- the words with these events from event k on; all else is as it was
unfoldable pub written : List ℕ → ℕ → List Event → List ℕ
written words k es = sets words (k * width) (encode es)

-- the first word of a mark's event, so far inside a tab
abbrev pub mark_word : Mark → InTab → ℕ
mark_word (Enter kind) tab = kind_word kind tab false
mark_word (Exit kind) tab = kind_word kind tab true
mark_word (Leave kind) tab = kind_word kind tab true

-- ---- reading

-- event k of a buffer
abbrev pub event_in : List ℕ → ℕ → Event
event_in words k =
    let first = get_or words (k * width) 0 in
    event (first / 8) (eqb (first % 2) 1)
    (point (get_or words (k * width + 1) 0) (get_or words (k * width + 2) 0) (get_or words (k * width + 3) 0) (in_tab (first / 2 % 4)))

-- n events of it, from event k on
unfoldable pub events_in : List ℕ → ℕ → ℕ → List Event
events_in words k zero = []
events_in words k (suc n) = event_in words k ∷ events_in words (k + 1) n
