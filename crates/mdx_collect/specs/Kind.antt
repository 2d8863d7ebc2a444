-- The kind of body that a scan asks about.
--
-- docs/SCOPE.md, 'From other languages': "The crate's callback for expressions is told which of three kinds it judges, an expression that stands
-- alone, an attribute that is an expression, or an attribute's value, by the name of the expression's own event (`token_1`), and ESM has a
-- callback of its own; so there are four kinds."
use Rattle.std.specs.Prelude.{ℕ, eqb}
use Rattle.base.specs.If.{when◌then◌else◌}
use Rattle.base.specs.Kind.{jsx_tag_attribute_expression, jsx_tag_attribute_value_expression}
use Rattle.tokenizer.specs.Decision.{expression_token}
use Rattle.tokenizer.specs.Ranges.{esm}
use Rattle.scan.specs.declared.Scan.{Scan}
use Rattle.mdx_collect.specs.Collect.{asked}

-- the scan asks about nothing
abbrev pub no_body : ℕ
no_body = 0

-- an expression that stands alone, an attribute that is an expression, an attribute's value: the Rust's `Expression`, `AttributeExpression`
-- and `AttributeValueExpression`
abbrev pub expression_body : ℕ
expression_body = 1

abbrev pub attribute_expression_body : ℕ
attribute_expression_body = 2

abbrev pub attribute_value_body : ℕ
attribute_value_body = 3

-- a block
abbrev pub esm_body : ℕ
esm_body = 4

-- by the kind of the expression's own events
abbrev pub kind_of_token : ℕ → ℕ
kind_of_token token =
    when eqb token jsx_tag_attribute_expression then attribute_expression_body
    else when eqb token jsx_tag_attribute_value_expression then attribute_value_body
    else expression_body

-- a scan over a page of its own length asks, or has a verdict kept that is not applied, as where a body can be read
unfoldable pub body_kind : Scan → ℕ
body_kind s =
    let job = s.tokenizer.job in
    when asked s job.length then
    (when eqb job.construct esm then esm_body else kind_of_token (expression_token job.kind s.tokenizer.regs.back))
    else no_body
