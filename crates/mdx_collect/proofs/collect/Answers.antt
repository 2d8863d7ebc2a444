use mathlib.Core.Path.{sym, ◌∙◌}
use Rattle.mdx_collect.proofs.Calls.{in_scratch}
use Rattle.mdx_collect.proofs.collect.Goals as goal

pub returns : goal.returns
returns c =
    in_scratch _ _ _ _ _ (sym c.is_asked.ensures ∙ c.if-not-is_asked.false) c.first_of-from.ensures c.seam_of-end.ensures c.copied.result _ (sym c.only_prefix.ensures ∙ c.if-only_prefix.false) c.copied.ensures
