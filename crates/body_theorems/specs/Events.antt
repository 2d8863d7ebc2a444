-- The body as the events say it: `util/mdx_collect.rs`, which the crate calls wherever it asks. What stands between the enter and the exit of a
-- run of data or of a line ending belongs to the body; an expression's body begins behind its marker. docs/SCOPE.md, 'Body' and 'Tabs'.
use Rattle.std.specs.Prelude.{ℕ, ◌+◌, ◌-◌, Bool, List, [], ◌∷◌, ◌++◌, eqb}
use Rattle.base.specs.If.{when◌then◌else◌, among}
use Rattle.base.specs.Kind.{expression_marker, line_ending, expression_data, esm_data}
use Rattle.base.specs.Tab.{columns_of, tab_size}
use Rattle.base.specs.declared.InTab.{InTab}
use Rattle.base.specs.declared.InTab.TheVariants.{Outside}
use Rattle.body_places.specs.Body.{Cell, cells_at, bytes_of, spaces, bytes_from}
use Rattle.events.specs.declared.Event.{Event}

-- What stands between two points of the page, the first of which is v columns inside a tab: `util/slice.rs`. The tab's own byte is then behind
-- that point already, and 4 - v spaces stand for what is left of it.
unfoldable pub slice_of : List ℕ → ℕ → ℕ → ℕ → List ℕ
slice_of page from v to =
    when eqb v 0 then bytes_from page from (to - from)
    else spaces (tab_size - v) ++ bytes_from page (from + 1) (to - (from + 1))

-- a run of it: its bytes stand one after the other from where it was entered, which is all that the crate's list of stops says of them
abbrev pub run_of : List ℕ → ℕ → ℕ → ℕ → List Cell
run_of page from v to = cells_at from (slice_of page from v to)

-- what is collected so far, and the point where the last run was entered
pub record Runs : Type 0 where
  pub cells : List Cell
  pub entered : ℕ
  pub tab : InTab

abbrev pub runs : List Cell → ℕ → InTab → Runs
runs cells entered tab = record { cells = cells; entered = entered; tab = tab }

abbrev pub no_runs : Runs
no_runs = runs [] 0 Outside

-- the kinds that are collected: `LineEnding`, `MdxExpressionData`, `MdxEsmData`
abbrev pub is_collected : ℕ → Bool
is_collected kind = among (line_ending ∷ expression_data ∷ esm_data ∷ []) kind

-- what an enter and an exit of a kind at an offset do
abbrev pub collect_enter : Runs → ℕ → ℕ → InTab → Runs
collect_enter r kind offset tab =
    when eqb kind expression_marker then runs [] offset tab
    else when is_collected kind then runs r.cells offset tab
    else r

abbrev pub collect_exit : List ℕ → Runs → ℕ → ℕ → Runs
collect_exit page r kind offset =
    when is_collected kind then runs (r.cells ++ run_of page r.entered (columns_of r.tab) offset) r.entered r.tab else r

-- one event more
unfoldable pub collect_one : List ℕ → Runs → Event → Runs
collect_one page r e = when e.exit then collect_exit page r e.kind e.offset else collect_enter r e.kind e.offset e.tab

-- events on top of what the ones before them collected, first to last
abbrev pub collect_on : List ℕ → Runs → List Event → Runs
collect_on page r [] = r
collect_on page r (e ∷ es) = collect_on page (collect_one page r e) es

abbrev pub collect_events : List ℕ → List Event → Runs
collect_events page events = collect_on page no_runs events

-- the body after these events, with the place of each byte; and its bytes
abbrev pub event_cells : List ℕ → List Event → List Cell
event_cells page events = (collect_events page events).cells

abbrev pub event_body : List ℕ → List Event → List ℕ
event_body page events = bytes_of (event_cells page events)
