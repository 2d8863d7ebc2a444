-- The body of an expression or of an ESM block: docs/SCOPE.md, 'Body': "The data and line endings in order, without line prefixes", and 'Tabs':
-- "A tab of which a line prefix takes V columns is handed over as 4 - V spaces."
use Rattle.std.specs.Prelude.{ℕ, zero, suc, ◌+◌, ◌-◌, Bool, ◌&&◌, List, [], ◌∷◌, ◌++◌, map, get_or, ltb, eqb}
use Rattle.base.specs.Byte.{tab, line_feed, space, right_brace}
use Rattle.base.specs.If.{when◌then◌else◌, among}
use Rattle.base.specs.Page.{byte_at}
use Rattle.base.specs.Tab.{tab_size}

-- ---- cells

-- a byte of a body, and the place that a verdict is given which says error there
pub record Cell : Type 0 where
  pub place : ℕ
  pub byte : ℕ

abbrev pub cell : ℕ → ℕ → Cell
cell place byte = record { place = place; byte = byte }

-- bytes that stand one after the other from a place on
abbrev pub cells_at : ℕ → List ℕ → List Cell
cells_at at [] = []
cells_at at (b ∷ bs) = cell at b ∷ cells_at (at + 1) bs

abbrev pub bytes_of : List Cell → List ℕ
bytes_of cells = map (λ (c : Cell). c.byte) cells

abbrev pub places_of : List Cell → List ℕ
places_of cells = map (λ (c : Cell). c.place) cells

-- ---- an expression

-- after a line ending at most two columns are a line prefix; elsewhere none are
abbrev pub prefix_after : ℕ → ℕ
prefix_after b = when eqb b line_feed then 2 else 0

-- the byte belongs to a line prefix of which `left` columns may still come
abbrev pub in_prefix : ℕ → ℕ → Bool
in_prefix b left = ltb 0 left && eqb b space

-- the prefix ends inside the tab b
abbrev pub splits : ℕ → ℕ → Bool
splits b left = ltb 0 left && eqb b tab

-- the spaces that stand for such a tab: of its four columns `left` are the prefix's. (Where only one is, the tab has two columns more, not three:
-- the crate's slice has one space too many, and bodies follow the crate's runs.)
abbrev pub spaces : ℕ → List ℕ
spaces zero = []
spaces (suc n) = space ∷ spaces n

abbrev pub split_tab : ℕ → List ℕ
split_tab left = spaces (tab_size - left)

-- Places count from the first byte of a run of data or line ending, so that behind a split tab they drift: up to the line's end, and up to a
-- `}` that asked and was taken as data, where the next run begins.
abbrev pub begins_run : ℕ → Bool
begins_run b = among (line_feed ∷ right_brace ∷ []) b

abbrev pub drift_at : ℕ → ℕ → ℕ
drift_at b drift = when begins_run b then 0 else drift

-- The body of the n places from `at` on, where `left` columns of a line prefix may still come and places drift by so much.
unfoldable pub cells_from : List ℕ → ℕ → ℕ → ℕ → ℕ → List Cell
cells_from page left drift at zero = []
cells_from page left drift at (suc n) =
    let b = byte_at page at in
    let skipped = cells_from page (left - 1) drift (at + 1) n in
    let split = cells_at at (split_tab left) ++ cells_from page 0 (tab_size - left - 1) (at + 1) n in
    let kept = cell (at + drift_at b drift) b ∷ cells_from page (prefix_after b) (drift_at b drift) (at + 1) n in
    when in_prefix b left then skipped else when splits b left then split else kept

-- an expression's body begins after its `{` and goes up to the place that asks
abbrev pub expression_cells : List ℕ → ℕ → ℕ → List Cell
expression_cells page from to = cells_from page 0 0 from (to - from)

abbrev pub expression_places : List ℕ → ℕ → ℕ → List ℕ
expression_places page from to = places_of (expression_cells page from to)

-- ---- a part of the page: an ESM block, of which nothing is left out, or an expression without line prefixes

unfoldable pub bytes_from : List ℕ → ℕ → ℕ → List ℕ
bytes_from page at zero = []
bytes_from page at (suc n) = byte_at page at ∷ bytes_from page (at + 1) n

abbrev pub part_cells : List ℕ → ℕ → ℕ → List Cell
part_cells page at n = cells_at at (bytes_from page at n)

unfoldable pub all_from : ℕ → ℕ → List ℕ
all_from at zero = []
all_from at (suc n) = at ∷ all_from (at + 1) n

abbrev pub esm_places : ℕ → ℕ → List ℕ
esm_places from to = all_from from (to - from)

-- ---- a verdict that says error

-- "A verdict error at body offset r is placed at that body byte; for r at or past the length, at the byte that asked."
abbrev pub place_of : List ℕ → ℕ → ℕ → ℕ
place_of places r asking = get_or places r asking
