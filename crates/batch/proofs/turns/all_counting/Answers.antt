use Rattle.std.proofs.Common.{◌∙◌, rules}
use Rattle.std.proofs.lemmas.Iterator.{YieldsList-from_slice}
use Rattle.std.proofs.lemmas.Iterator.Search.{all_from_yields_List}
use Rattle.batch.specs.Batch.{counting}
use Rattle.batch.proofs.Lists.{all_is}
use Rattle.batch.proofs.turns.all_counting.Goals as goal

pub returns : goal.returns
returns c =
    all_from_yields_List counting _ _ _ c.all.ensures.ran (YieldsList-from_slice c.args.openings.now cc) (λ x b q k. search rules)
    ∙ all_is c.args.openings.now
