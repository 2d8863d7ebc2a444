-- An event as text: a mark, or a line.
use Rattle.std.specs.Prelude.{ℕ, Bool, true, false, List, [], ◌∷◌, ◌++◌, eqb}
use Rattle.base.specs.Byte.{line_feed, space, plus_sign, hyphen, colon, at_sign}
use Rattle.base.specs.If.{when◌then◌else◌}
use Rattle.base.specs.Tab.{columns_of}
use Rattle.base.specs.declared.InTab.{InTab}
use Rattle.events.specs.declared.Event.{Event}
use Rattle.report.specs.Decimal.{joined_pieces}
use Rattle.report.specs.Name.{kind_name}

-- `exit` or `enter`, and a space
abbrev pub verb_of : Bool → List ℕ
verb_of true = 101 ∷ 120 ∷ 105 ∷ 116 ∷ space ∷ []
verb_of false = 101 ∷ 110 ∷ 116 ∷ 101 ∷ 114 ∷ space ∷ []

-- a space, and a sign
abbrev pub sign_of : Bool → List ℕ
sign_of true = space ∷ hyphen ∷ []
sign_of false = space ∷ plus_sign ∷ []

-- the offset, its line and its column, a joint before each: `@2:2:3`
abbrev pub point_pieces : List ℕ → List ℕ → Event → List (List ℕ)
point_pieces first joint e = joined_pieces first e.offset ++ (joined_pieces joint e.line ++ joined_pieces joint e.column)

-- `~`
abbrev pub tilde : ℕ
tilde = 126

-- a joint and the columns of a tab that are passed there, as `~2`; nothing outside a tab
abbrev pub tab_pieces : List ℕ → InTab → List (List ℕ)
tab_pieces joint tab = when eqb (columns_of tab) 0 then [] else joined_pieces joint (columns_of tab)

-- ` -line-prefix@2:2:3~2`
abbrev pub mark_pieces : Event → List (List ℕ)
mark_pieces e =
    sign_of e.exit
    ∷ kind_name e.kind
    ∷ point_pieces (at_sign ∷ []) (colon ∷ []) e
    ++ tab_pieces (tilde ∷ []) e.tab

-- `exit line-prefix 2 2 3 ~2`, and a line feed
abbrev pub line_pieces : Event → List (List ℕ)
line_pieces e =
    verb_of e.exit
    ∷ kind_name e.kind
    ∷ point_pieces (space ∷ []) (space ∷ []) e
    ++ (tab_pieces (space ∷ tilde ∷ []) e.tab
    ++ ((line_feed ∷ []) ∷ []))
