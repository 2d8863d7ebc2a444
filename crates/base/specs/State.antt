-- The states of a scan. A scan rests where it has ended, at the number of its answer (docs/SCOPE.md, 'The answer table'), and
-- where it asks for a verdict. The running states are the Rust's `StateName`s, under their names.
use Rattle.std.specs.Prelude.{ℕ, Bool, ltb}

abbrev pub done : ℕ
done = 0

abbrev pub nok : ℕ
nok = 1

abbrev pub not_ascii : ℕ
not_ascii = 5

abbrev pub eof : ℕ
eof = 6

abbrev pub unexpected : ℕ
unexpected = 7

abbrev pub verdict_error : ℕ
verdict_error = 8

abbrev pub verdict_eof : ℕ
verdict_eof = 9

abbrev pub full : ℕ
full = 10

abbrev pub bad_call : ℕ
bad_call = 12

abbrev pub asking : ℕ
asking = 31

-- the running states begin here; 13 to 30 are kept for answers to come
abbrev pub first_running : ℕ
first_running = 32

-- the scan has ended, or waits for a verdict
abbrev pub rests : ℕ → Bool
rests state = ltb state first_running

abbrev pub mdx_expression_start : ℕ
mdx_expression_start = 32

abbrev pub mdx_expression_before : ℕ
mdx_expression_before = 33

abbrev pub mdx_expression_inside : ℕ
mdx_expression_inside = 34

abbrev pub mdx_expression_eol_after : ℕ
mdx_expression_eol_after = 35

abbrev pub mdx_expression_prefix : ℕ
mdx_expression_prefix = 36

-- a verdict on an expression's body is applied: the Rust's `parse_expression`, once its callback has answered
abbrev pub mdx_expression_verdict : ℕ
mdx_expression_verdict = 37

abbrev pub mdx_jsx_start : ℕ
mdx_jsx_start = 38

abbrev pub mdx_jsx_attribute_value_quoted : ℕ
mdx_jsx_attribute_value_quoted = 39

-- from here to `mdx_jsx_attribute_value_expression_after`: the states that white space or an expression in a tag returns to
abbrev pub mdx_jsx_attribute_value_quoted_start : ℕ
mdx_jsx_attribute_value_quoted_start = 40

abbrev pub mdx_jsx_name_before : ℕ
mdx_jsx_name_before = 41

abbrev pub mdx_jsx_closing_tag_name_before : ℕ
mdx_jsx_closing_tag_name_before = 42

abbrev pub mdx_jsx_primary_name_after : ℕ
mdx_jsx_primary_name_after = 43

abbrev pub mdx_jsx_member_name_before : ℕ
mdx_jsx_member_name_before = 44

abbrev pub mdx_jsx_member_name_after : ℕ
mdx_jsx_member_name_after = 45

abbrev pub mdx_jsx_local_name_before : ℕ
mdx_jsx_local_name_before = 46

abbrev pub mdx_jsx_local_name_after : ℕ
mdx_jsx_local_name_after = 47

abbrev pub mdx_jsx_attribute_before : ℕ
mdx_jsx_attribute_before = 48

abbrev pub mdx_jsx_self_closing : ℕ
mdx_jsx_self_closing = 49

abbrev pub mdx_jsx_attribute_expression_after : ℕ
mdx_jsx_attribute_expression_after = 50

abbrev pub mdx_jsx_attribute_primary_name_after : ℕ
mdx_jsx_attribute_primary_name_after = 51

abbrev pub mdx_jsx_attribute_local_name_before : ℕ
mdx_jsx_attribute_local_name_before = 52

abbrev pub mdx_jsx_attribute_local_name_after : ℕ
mdx_jsx_attribute_local_name_after = 53

abbrev pub mdx_jsx_attribute_value_before : ℕ
mdx_jsx_attribute_value_before = 54

abbrev pub mdx_jsx_attribute_value_expression_after : ℕ
mdx_jsx_attribute_value_expression_after = 55

abbrev pub mdx_jsx_start_after : ℕ
mdx_jsx_start_after = 56

abbrev pub mdx_jsx_tag_end : ℕ
mdx_jsx_tag_end = 57

-- the five states inside a name
abbrev pub mdx_jsx_primary_name : ℕ
mdx_jsx_primary_name = 58

abbrev pub mdx_jsx_member_name : ℕ
mdx_jsx_member_name = 59

abbrev pub mdx_jsx_local_name : ℕ
mdx_jsx_local_name = 60

abbrev pub mdx_jsx_attribute_primary_name : ℕ
mdx_jsx_attribute_primary_name = 61

abbrev pub mdx_jsx_attribute_local_name : ℕ
mdx_jsx_attribute_local_name = 62

abbrev pub mdx_jsx_es_whitespace_start : ℕ
mdx_jsx_es_whitespace_start = 63

abbrev pub mdx_jsx_es_whitespace_inside : ℕ
mdx_jsx_es_whitespace_inside = 64

abbrev pub mdx_jsx_es_whitespace_eol_after : ℕ
mdx_jsx_es_whitespace_eol_after = 65

-- the white space states as the Rust runs them after `=` of a plain attribute: retried when the byte is already eaten
abbrev pub mdx_jsx_es_whitespace_start_retried : ℕ
mdx_jsx_es_whitespace_start_retried = 66

abbrev pub mdx_jsx_es_whitespace_inside_retried : ℕ
mdx_jsx_es_whitespace_inside_retried = 67

abbrev pub mdx_esm_start : ℕ
mdx_esm_start = 68

abbrev pub mdx_esm_word : ℕ
mdx_esm_word = 69

abbrev pub mdx_esm_inside : ℕ
mdx_esm_inside = 70

abbrev pub mdx_esm_line_start : ℕ
mdx_esm_line_start = 71

abbrev pub mdx_esm_continuation_start : ℕ
mdx_esm_continuation_start = 72

abbrev pub mdx_esm_blank_line_before : ℕ
mdx_esm_blank_line_before = 73

-- the Rust's `blank_line` states, which look at the line after `mdx_esm_blank_line_before`
abbrev pub mdx_esm_blank_line : ℕ
mdx_esm_blank_line = 74

abbrev pub mdx_esm_at_end : ℕ
mdx_esm_at_end = 75

-- a verdict on an ESM block is applied: the Rust's `parse_esm`
abbrev pub mdx_esm_verdict : ℕ
mdx_esm_verdict = 76
