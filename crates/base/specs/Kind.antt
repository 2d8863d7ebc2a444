-- The kinds of an event: the crate's names, numbered once in the order in which the modules use them, expression, tag, ESM
-- (docs/SCOPE.md, 'The answer table'). A name is the crate's `Name` less its leading `Mdx`.
use Rattle.std.specs.Prelude.{ℕ}

abbrev pub flow_expression : ℕ
flow_expression = 1

abbrev pub text_expression : ℕ
text_expression = 2

abbrev pub expression_marker : ℕ
expression_marker = 3

abbrev pub line_ending : ℕ
line_ending = 4

abbrev pub expression_data : ℕ
expression_data = 5

abbrev pub line_prefix : ℕ
line_prefix = 6

abbrev pub jsx_flow_tag : ℕ
jsx_flow_tag = 7

abbrev pub jsx_text_tag : ℕ
jsx_text_tag = 8

abbrev pub jsx_tag_marker : ℕ
jsx_tag_marker = 9

abbrev pub jsx_tag_closing_marker : ℕ
jsx_tag_closing_marker = 10

abbrev pub jsx_tag_name : ℕ
jsx_tag_name = 11

abbrev pub jsx_tag_name_primary : ℕ
jsx_tag_name_primary = 12

abbrev pub jsx_tag_name_member_marker : ℕ
jsx_tag_name_member_marker = 13

abbrev pub jsx_tag_name_prefix_marker : ℕ
jsx_tag_name_prefix_marker = 14

abbrev pub jsx_tag_name_member : ℕ
jsx_tag_name_member = 15

abbrev pub jsx_tag_name_local : ℕ
jsx_tag_name_local = 16

abbrev pub jsx_tag_self_closing_marker : ℕ
jsx_tag_self_closing_marker = 17

abbrev pub jsx_tag_attribute_expression : ℕ
jsx_tag_attribute_expression = 18

abbrev pub jsx_tag_attribute : ℕ
jsx_tag_attribute = 19

abbrev pub jsx_tag_attribute_name : ℕ
jsx_tag_attribute_name = 20

abbrev pub jsx_tag_attribute_primary_name : ℕ
jsx_tag_attribute_primary_name = 21

abbrev pub jsx_tag_attribute_name_prefix_marker : ℕ
jsx_tag_attribute_name_prefix_marker = 22

abbrev pub jsx_tag_attribute_initializer_marker : ℕ
jsx_tag_attribute_initializer_marker = 23

abbrev pub jsx_tag_attribute_name_local : ℕ
jsx_tag_attribute_name_local = 24

abbrev pub jsx_tag_attribute_value_literal : ℕ
jsx_tag_attribute_value_literal = 25

abbrev pub jsx_tag_attribute_value_literal_marker : ℕ
jsx_tag_attribute_value_literal_marker = 26

abbrev pub jsx_tag_attribute_value_expression : ℕ
jsx_tag_attribute_value_expression = 27

abbrev pub jsx_tag_attribute_value_literal_value : ℕ
jsx_tag_attribute_value_literal_value = 28

abbrev pub jsx_es_whitespace : ℕ
jsx_es_whitespace = 29

abbrev pub esm : ℕ
esm = 30

abbrev pub esm_data : ℕ
esm_data = 31
