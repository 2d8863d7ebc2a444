-- What the steps of a scan cost. The price of a step is set by how many events it writes, and does not fall where it writes more. Two
-- prices are asked about: each step costs 1, so that a scan costs its steps, and each step costs its events, so that a scan costs these.
-- Both bounds are one theorem about any prices.
use Prim.Native.Nat.{ℕ, ◌+◌, ◌*◌, ◌≤◌}
use mathlib.Core.Path.{◌≡◌, refl}
use native.Mathlib.Omega.{arith}
use Rattle.base.specs.Decide.{count_of}
use Rattle.base.specs.declared.Marks.{Marks}
use Rattle.base.specs.declared.Marks.TheVariants.{Nothing, One, Two, Three, Four}

-- the price of a step without events, with one, and so on, and the most that is paid for one byte
pub record Prices : Type 0 where
  pub none : ℕ
  pub one : ℕ
  pub two : ℕ
  pub three : ℕ
  pub four : ℕ
  pub most : ℕ
  pub one_more_lem : none ≤ one
  pub two_more : one ≤ two
  pub three_more : two ≤ three
  pub four_more : three ≤ four
  -- the dearest bytes: what follows an attribute's name, the quote behind a run of a value, a line ending in an ESM block
  pub name : 3 * none + one + two + three ≤ most
  pub quote : 2 * none + one + four ≤ most
  pub line : 6 * none + one + two ≤ most

abbrev pub price : Prices → Marks → ℕ
price p Nothing = p.none
price p (One a) = p.one
price p (Two a b) = p.two
price p (Three a b c) = p.three
price p (Four a b c d) = p.four

-- none is cheaper than a step without events
pub price_least : (p : Prices) (m : Marks) → p.none ≤ price p m
price_least p Nothing = omega arith
price_least p (One a) = omega (arith, p)
price_least p (Two a b) = omega (arith, p)
price_least p (Three a b c) = omega (arith, p)
price_least p (Four a b c d) = omega (arith, p)

-- ---- each step costs 1

unfoldable pub steps : Prices
steps =
    record {
      none = 1;
      one = 1;
      two = 1;
      three = 1;
      four = 1;
      most = 8;
      one_more_lem = omega arith;
      two_more = omega arith;
      three_more = omega arith;
      four_more = omega arith;
      name = omega arith;
      quote = omega arith;
      line = omega arith;
    }

pub price_step : (m : Marks) → price steps m ≡ 1
unfolding steps
price_step Nothing = refl
price_step (One a) = refl
price_step (Two a b) = refl
price_step (Three a b c) = refl
price_step (Four a b c d) = refl

-- ---- each step costs its events

unfoldable pub events : Prices
events =
    record {
      none = 0;
      one = 1;
      two = 2;
      three = 3;
      four = 4;
      most = 6;
      one_more_lem = omega arith;
      two_more = omega arith;
      three_more = omega arith;
      four_more = omega arith;
      name = omega arith;
      quote = omega arith;
      line = omega arith;
    }

pub price_events : (m : Marks) → price events m ≡ count_of m
unfolding events
price_events Nothing = refl
price_events (One a) = refl
price_events (Two a b) = refl
price_events (Three a b c) = refl
price_events (Four a b c d) = refl
