-- Where a brace closes: the rule to tell people, over the bytes of a page and offsets into it, and nothing else.
--
--     {"}"}
--       ^ closes the first `{`: the bytes strictly between, here a quotation mark, hold no `{` and no `}`, which is equally many
--
-- docs/SCOPE.md, 'Where an expression closes'. Closing.antt says what follows this rule.
use Rattle.std.specs.Prelude.{ℕ, zero, suc, ◌+◌, ◌-◌, ◌<◌, ◌≡◌, Bool, true, false, ◌&&◌, List, [], ◌∷◌, ltb, eqb, length, get_or, take, drop}
use Rattle.std.proofs.Math.Option.{Option, none, some}
use Rattle.base.specs.Byte.{left_brace, right_brace}
use Rattle.base.specs.If.{when◌then◌else◌}

-- how many of the bytes are b
abbrev pub how_many : ℕ → List ℕ → ℕ
how_many b [] = 0
how_many b (x ∷ bytes) = (when eqb x b then 1 else 0) + how_many b bytes

-- the bytes strictly between two offsets
abbrev pub between : List ℕ → ℕ → ℕ → List ℕ
between page brace c = take (c - (brace + 1)) (drop (brace + 1) page)

-- they hold equally many `{` and `}`
abbrev pub even_between : List ℕ → ℕ → ℕ → Bool
even_between page brace c = eqb (how_many left_brace (between page brace c)) (how_many right_brace (between page brace c))

-- An offset closes the `{` at `brace` if it is a later one, a `}` stands there, and the bytes strictly between hold equally many `{` and `}`.
unfoldable pub closes : List ℕ → ℕ → ℕ → Bool
closes page brace c = ltb brace c && (eqb (get_or page c 0) right_brace && even_between page brace c)

-- *The* closing offset is the first such.
pub record ClosingOffset (page : List ℕ) (brace c : ℕ) : Type 0 where
  pub there : closes page brace c ≡ true
  pub first : (d : ℕ) → d < c → closes page brace d ≡ false

-- There may be none.
abbrev pub NeverCloses : List ℕ → ℕ → Type 0
NeverCloses page brace = (c : ℕ) → closes page brace c ≡ false

-- ---- the rule, computed: `closing_is_the_first` and `nothing_closes` say that this is it

-- the first of the n offsets from c on that closes it
abbrev pub first_of : List ℕ → ℕ → ℕ → ℕ → Option ℕ
first_of page brace c zero = none
first_of page brace c (suc n) = when closes page brace c then some c else first_of page brace (c + 1) n

-- the closing offset of the `{` at `brace`, if it has one
unfoldable pub closing_of : List ℕ → ℕ → Option ℕ
closing_of page brace = first_of page brace 0 (length page)
