-- What the parts of the call do: a record filled by its case, and what is known between two records. No promise to a user of the library
-- cites these.
use Rattle.std.specs.Prelude.{ℕ, ◌*◌, ◌≤◌, ◌≡◌, List, Result, length}
use Rattle.base.specs.State.{done}
use Rattle.events.specs.Words.{width}
use Rattle.page.specs.declared.Fault.{Fault}
use Rattle.page.specs.declared.line.Line.{Line}
use Rattle.page.specs.declared.line.Spot.{Spot}
use Rattle.page.specs.Page.{page_check}
use Rattle.scan.specs.declared.Tally.{Tally}
use Rattle.batch.specs.declared.Opening.{Opening}
use Rattle.batch.specs.declared.turns.Run.{Run}

-- ---- a record

abbrev pub placed_of : Opening → ℕ → ℕ → Spot → ℕ → ℕ → Opening
placed_of o first answer p site note =
    record {
      start = o.start;
      construct = o.construct;
      kind = o.kind;
      flags = o.flags;
      answer = answer;
      place = p.place;
      line = p.line;
      column = p.column;
      site = site;
      note = note;
      events = 0;
      steps = 0;
      first = first;
    }

abbrev pub ended_of : Opening → ℕ → ℕ → Opening
ended_of o first end = placed_of o first done (record { place = end; line = 0; column = 0 }) 0 0

abbrev pub bare_of : Opening → ℕ → ℕ → Opening
bare_of o first answer = placed_of o first answer (record { place = 0; line = 0; column = 0 }) 0 0

abbrev pub tallied_of : Opening → Tally → Opening
tallied_of o t =
    record {
      start = o.start;
      construct = o.construct;
      kind = o.kind;
      flags = o.flags;
      answer = o.answer;
      place = o.place;
      line = o.line;
      column = o.column;
      site = o.site;
      note = o.note;
      events = t.events;
      steps = t.steps;
      first = o.first;
    }

-- ---- the page

-- its check for a start
abbrev pub check_for : List ℕ → ℕ → Result Line Fault
check_for page start = page_check page 0 (length page) start

-- the page's check for `from`, a place in the page, is known, and the events stand inside the words
pub record Sound (page words : List ℕ) (r : Run) : Type 0 where
  pub known : r.checked ≡ check_for page r.from
  pub from : r.from ≤ length page
  pub room : r.used * width ≤ length words
