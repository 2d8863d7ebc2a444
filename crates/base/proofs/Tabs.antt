-- A tab has four columns at the most, so that three at the most are passed inside it.
use Prim.Native.Nat.{◌<◌}
use native.Mathlib.Omega.{arith}
use Rattle.base.specs.declared.InTab.{InTab}
use Rattle.base.specs.declared.InTab.TheVariants.{Outside, Past1, Past2, Past3}
use Rattle.base.specs.Tab.{columns_of}

pub columns_few : (tab : InTab) → columns_of tab < 4
columns_few Outside = omega arith
columns_few Past1 = omega arith
columns_few Past2 = omega arith
columns_few Past3 = omega arith
