-- The names of the answers, as bytes; and an answer's text, its name and values.
use Rattle.std.specs.Prelude.{ℕ, List, [], ◌∷◌, ◌++◌, ltb, Option, Some, None}
use Rattle.std.specs.Bool.{then_some}
use Rattle.base.specs.Table.{find}
use Rattle.page.specs.declared.line.Line.{Line}
use Rattle.report.specs.declared.answers.Told.{Told}
use Rattle.report.specs.Decimal.{joined_pieces, value_pieces}
use Rattle.report.specs.Name.{unknown}

abbrev pub answer_names : List (ℕ × List ℕ)
answer_names =
    -- Done
    (0, 68 ∷ 111 ∷ 110 ∷ 101 ∷ [])
    -- Nok
    ∷ (1, 78 ∷ 111 ∷ 107 ∷ [])
    -- TooLong
    ∷ (2, 84 ∷ 111 ∷ 111 ∷ 76 ∷ 111 ∷ 110 ∷ 103 ∷ [])
    -- BadStart
    ∷ (3, 66 ∷ 97 ∷ 100 ∷ 83 ∷ 116 ∷ 97 ∷ 114 ∷ 116 ∷ [])
    -- BadText
    ∷ (4, 66 ∷ 97 ∷ 100 ∷ 84 ∷ 101 ∷ 120 ∷ 116 ∷ [])
    -- NotAscii
    ∷ (5, 78 ∷ 111 ∷ 116 ∷ 65 ∷ 115 ∷ 99 ∷ 105 ∷ 105 ∷ [])
    -- Eof
    ∷ (6, 69 ∷ 111 ∷ 102 ∷ [])
    -- Unexpected
    ∷ (7, 85 ∷ 110 ∷ 101 ∷ 120 ∷ 112 ∷ 101 ∷ 99 ∷ 116 ∷ 101 ∷ 100 ∷ [])
    -- VerdictError
    ∷ (8, 86 ∷ 101 ∷ 114 ∷ 100 ∷ 105 ∷ 99 ∷ 116 ∷ 69 ∷ 114 ∷ 114 ∷ 111 ∷ 114 ∷ [])
    -- VerdictEof
    ∷ (9, 86 ∷ 101 ∷ 114 ∷ 100 ∷ 105 ∷ 99 ∷ 116 ∷ 69 ∷ 111 ∷ 102 ∷ [])
    -- Full
    ∷ (10, 70 ∷ 117 ∷ 108 ∷ 108 ∷ [])
    -- NoPlace
    ∷ (11, 78 ∷ 111 ∷ 80 ∷ 108 ∷ 97 ∷ 99 ∷ 101 ∷ [])
    -- BadCall
    ∷ (12, 66 ∷ 97 ∷ 100 ∷ 67 ∷ 97 ∷ 108 ∷ 108 ∷ [])
    -- Asking
    ∷ (31, 65 ∷ 115 ∷ 107 ∷ 105 ∷ 110 ∷ 103 ∷ [])
    -- Paused
    ∷ (32, 80 ∷ 97 ∷ 117 ∷ 115 ∷ 101 ∷ 100 ∷ [])
    -- Kept
    ∷ (33, 75 ∷ 101 ∷ 112 ∷ 116 ∷ [])
    ∷ []

unfoldable pub answer_name : ℕ → List ℕ
answer_name n = find n answer_names unknown

-- the line and the column of a place, behind it, with a joint before each: `:` or a space
abbrev pub place_pieces : List ℕ → Option Line → List (List ℕ)
place_pieces joint None = []
place_pieces joint (Some l) = joined_pieces joint l.number ++ joined_pieces joint l.column

-- the values that it carries, a space before each
abbrev pub values_pieces : List ℕ → Told → List (List ℕ)
values_pieces joint t =
    value_pieces (then_some (ltb 0 t.values) t.first)
    ++ (place_pieces joint t.line
    ++ (value_pieces (then_some (ltb 1 t.values) t.second)
    ++ value_pieces (then_some (ltb 2 t.values) t.third)))

abbrev pub answer_pieces : List ℕ → Told → List (List ℕ)
answer_pieces joint t = answer_name t.number ∷ values_pieces joint t
