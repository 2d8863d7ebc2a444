-- The four letters that say what is asked of a scan, each with a space after it.
use Rattle.std.specs.Prelude.{ℕ, ◌&&◌, List, [], ◌∷◌, eqb, drop, Option, Some, None}
use Rattle.base.specs.Byte.{space, digit0, small_e}
use Rattle.base.specs.If.{when◌then◌else◌}
use Rattle.text.specs.declared.letters.Letters.{Letters}

abbrev pub small_c : ℕ
small_c = 99

abbrev pub small_f : ℕ
small_f = 102

abbrev pub small_s : ℕ
small_s = 115

abbrev pub small_t : ℕ
small_t = 116

abbrev pub small_v : ℕ
small_v = 118

abbrev pub digit1 : ℕ
digit1 = 49

-- the four letters at the start of a text, if each has a space after it
unfoldable pub spaced_of : List ℕ → Option (List ℕ)
spaced_of (a ∷ p ∷ b ∷ q ∷ c ∷ r ∷ d ∷ s ∷ rest) =
    when eqb p space && (eqb q space && (eqb r space && eqb s space)) then Some (a ∷ b ∷ c ∷ d ∷ []) else None
spaced_of _ = None

-- an expression, a tag, an ESM block
unfoldable pub construct_of : ℕ → Option ℕ
construct_of b =
    when eqb b small_e then Some 0
    else when eqb b small_t then Some 1
    else when eqb b small_s then Some 2
    else None

-- the first of two letters, or the second
unfoldable pub choice_of : ℕ → ℕ → ℕ → Option ℕ
choice_of b first second =
    when eqb b first then Some 0
    else when eqb b second then Some 1
    else None

unfoldable pub flags_of : ℕ → ℕ → ℕ
flags_of mode interrupt =
    when eqb interrupt 0 then mode
    else when eqb mode 0 then 2
    else 3

-- all four letters are among those listed, or there are none
abbrev pub checked_of : Option ℕ → Option ℕ → Option ℕ → Option ℕ → Option Letters
checked_of (Some construct) (Some kind) (Some mode) (Some interrupt) =
    Some (record { construct = construct; kind = kind; flags = flags_of mode interrupt })
checked_of (Some construct) (Some kind) (Some mode) None = None
checked_of (Some construct) (Some kind) None interrupt = None
checked_of (Some construct) None mode interrupt = None
checked_of None kind mode interrupt = None

-- the construct, flow or text, counting or with verdicts, the interrupt flag clear or set
unfoldable pub asked_of : Option (List ℕ) → Option Letters
asked_of (Some (construct ∷ kind ∷ mode ∷ interrupt ∷ [])) =
    checked_of (construct_of construct) (choice_of kind small_f small_t) (choice_of mode small_c small_v) (choice_of interrupt digit0 digit1)
asked_of _ = None

-- the letters from a place of the line on
abbrev pub letters_of : List ℕ → ℕ → Option Letters
letters_of line from = asked_of (spaced_of (drop from line))
