use mathlib.Core.Path.{sym, ◌∙◌}
use Rattle.base.proofs.Choice.{or_yes, or_else}
use Rattle.mdx_esm.proofs.Words.{part_is_word, no_part}
use Rattle.mdx_esm.proofs.is_word.Goals as goal

-- the part is one of the page, and is compared with `export`, and then with `import`
pub returns-then-eq : goal.returns-then-eq
returns-then-eq c =
    let part = c.in-Some.ensures.lookup.0 in
    let export = rw (part.2, c.as_slice.ensures) at c.eq.ensures in
    c.if-eq.true ∙ sym (part_is_word _ _ _ part.0 part.1 ∙ or_yes _ _ (sym export ∙ c.if-eq.true))

pub returns-else-eq : goal.returns-else-eq
returns-else-eq c =
    let part = c.in-Some.ensures.lookup.0 in
    let export = rw (part.2, c.as_slice.ensures) at c.eq.ensures in
    let import = rw (part.2, c.as_slice-else-eq.ensures) at c.eq-else-eq.ensures in
    or_else _ _ _ (sym export ∙ c.if-eq.false) import ∙ sym (part_is_word _ _ _ part.0 part.1)

-- there is no such part
pub returns-in-None : goal.returns-in-None
returns-in-None c = sym (no_part _ _ _ c.in-None.ensures.lookup.0)
