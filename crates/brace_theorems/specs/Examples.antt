-- The rule on braces, computed on pages that a help desk meets: the rows of docs/LISTING.md, 'Where a brace closes', as one table under one
-- claim, `the_rule_on_examples`. What the scanner answers on them is run in the tests.
use Rattle.std.specs.Prelude.{ℕ, ◌≡◌, List, [], ◌∷◌}
use Rattle.std.proofs.Math.Option.{Option, none, some}
use Rattle.brace_theorems.specs.Braces.{closing_of}

-- a page, where a `{` stands in it, and the closing offset, if there is one
pub record Example : Type 0 where
  pub page : List ℕ
  pub brace : ℕ
  pub closing : Option ℕ

abbrev pub Computed : List Example → Type 0
Computed [] = Unit {0}
Computed (x ∷ xs) = (closing_of x.page x.brace ≡ x.closing) × Computed xs

abbrev pub examples : List Example
examples =
    -- {{a: {b: 1}}}
    record { page = 123 ∷ 123 ∷ 97 ∷ 58 ∷ 32 ∷ 123 ∷ 98 ∷ 58 ∷ 32 ∷ 49 ∷ 125 ∷ 125 ∷ 125 ∷ []; brace = 0; closing = some 12 }
    -- {"}"}
    ∷ record { page = 123 ∷ 34 ∷ 125 ∷ 34 ∷ 125 ∷ []; brace = 0; closing = some 2 }
    -- {'{'}
    ∷ record { page = 123 ∷ 39 ∷ 123 ∷ 39 ∷ 125 ∷ []; brace = 0; closing = none }
    -- {"\x7d"}
    ∷ record { page = 123 ∷ 34 ∷ 92 ∷ 120 ∷ 55 ∷ 100 ∷ 34 ∷ 125 ∷ []; brace = 0; closing = some 7 }
    -- {/* } */ a}
    ∷ record { page = 123 ∷ 47 ∷ 42 ∷ 32 ∷ 125 ∷ 32 ∷ 42 ∷ 47 ∷ 32 ∷ 97 ∷ 125 ∷ []; brace = 0; closing = some 4 }
    -- {a} }
    ∷ record { page = 123 ∷ 97 ∷ 125 ∷ 32 ∷ 125 ∷ []; brace = 0; closing = some 2 }
    -- {a} b}
    ∷ record { page = 123 ∷ 97 ∷ 125 ∷ 32 ∷ 98 ∷ 125 ∷ []; brace = 0; closing = some 2 }
    -- {a {b}
    ∷ record { page = 123 ∷ 97 ∷ 32 ∷ 123 ∷ 98 ∷ 125 ∷ []; brace = 0; closing = none }
    -- <a b={"}"}>
    ∷ record { page = 60 ∷ 97 ∷ 32 ∷ 98 ∷ 61 ∷ 123 ∷ 34 ∷ 125 ∷ 34 ∷ 125 ∷ 62 ∷ []; brace = 5; closing = some 7 }
    -- <a b={c>
    ∷ record { page = 60 ∷ 97 ∷ 32 ∷ 98 ∷ 61 ∷ 123 ∷ 99 ∷ 62 ∷ []; brace = 5; closing = none }
    ∷ []
