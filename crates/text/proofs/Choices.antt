-- A choice whose test is known, and what the test says.
use Rattle.std.proofs.lemmas.Bool.Decides.{nat_tests}
use Rattle.base.proofs.Choice.{if_yes, if_no}

pub ruleset choices = (if_yes, if_no, nat_tests)
