-- The invariant: the digits passed are digits and say the value, which has at most as many.
use Prim.Native.Nat.{◌^◌, ◌<◌}
use mathlib.Core.Path.{◌≡◌}
use mathlib.Core.Bool.{true}
use lib.ListN.{take}
use Rattle.text.specs.Decimal.{all_digits, value_from}
use Rattle.text.proofs.numbers.number.Given as goal

abbrev pub invariant-loop-digit : goal.invariant-loop-digit
invariant-loop-digit l = record {
  small : l.value < 10 ^ l.digit-index;
  digits : all_digits (take l.digit-index l.digits) ≡ true;
  said : l.value ≡ value_from 0 (take l.digit-index l.digits);
}
