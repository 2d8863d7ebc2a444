-- What the calls answer is known by number and values: no two of them say the same.
use Prim.Native.Nat.{ℕ}
use mathlib.Core.Path.{◌≡◌, refl, sym, ap, ◌∙◌}
use mathlib.Core.List.{List, [], ◌∷◌}
use lib.Dec.{eqb}
use lib.ListN.{get_or}
use Rattle.std.specs.Prelude.{Option, Some, None}
use Rattle.base.specs.If.{when◌then◌else◌}
use Rattle.scan.specs.Answer.{Said}
use Rattle.room.specs.Room.{enough_by, longest_by}

-- ---- the words, read back

enough_said : Said → Option ℕ
enough_said a = when eqb a.number 40 then Some (get_or a.values 0 0) else None

enough_back : (e : Option ℕ) → enough_said (enough_by e) ≡ e
unfolding enough_said when◌then◌else◌
enough_back (Some n) = refl
enough_back None = refl

pub one_enough_for_each_number : (d e : Option ℕ) → enough_by d ≡ enough_by e → d ≡ e
one_enough_for_each_number d e s = sym (enough_back d) ∙ ap enough_said s ∙ enough_back e

-- ---- the longest page, read back

abbrev pub longest_said : List ℕ → Option ℕ
longest_said [] = None
longest_said (n ∷ ns) = Some n

pub longest_back : (l : Option ℕ) → longest_said (longest_by l) ≡ l
longest_back None = refl
longest_back (Some n) = refl
