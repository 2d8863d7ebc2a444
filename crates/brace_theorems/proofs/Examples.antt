-- The rule on braces, computed on the help desk's examples.
use mathlib.Core.Path.{refl}
use Rattle.base.specs.If.{when◌then◌else◌}
use Rattle.base.proofs.Tables.{◌&◌}
use Rattle.brace_theorems.specs.Braces.{closes, closing_of}
use Rattle.brace_theorems.specs.Examples.{Computed, examples}

pub the_rule_on_examples : Computed examples
unfolding closing_of closes when◌then◌else◌
the_rule_on_examples = refl & refl & refl & refl & refl & refl & refl & refl & refl & refl & tt
