-- One byte that is no digit, or the whole that was passed.
use native.Mathlib.Omega.{arith}
use mathlib.Core.Path.{◌≡◌}
use mathlib.Core.Bool.{false}
use lib.ListN.{take}
use Rattle.base.specs.Byte.{digit0, digit9}
use Rattle.base.specs.Range.{within}
use Rattle.std.proofs.lemmas.Grind.{common_steps}
use Rattle.std.proofs.lemmas.List.Folds.{list_all_at}
use Rattle.text.specs.Decimal.{all_digits, value_from}
use Rattle.text.proofs.Choices.{choices}
use Rattle.text.proofs.numbers.number.Goals as goal

pub returns-then-not-is_ascii_digit : goal.returns-then-not-is_ascii_digit
unfolding within all_digits
returns-then-not-is_ascii_digit c =
    let none : all_digits c.args.digits.now ≡ false =
    list_all_at (within digit0 digit9) c.args.digits.now c.loop-digit.digit-index 0 (omega arith) (grind (arith, choices)) in
    grind (arith, choices)

pub returns : goal.returns
unfolding all_digits value_from
returns c =
    let whole : take c.loop-digit.digit-index c.args.digits.now ≡ c.args.digits.now = grind (arith, common_steps) in
    grind (arith, choices)
