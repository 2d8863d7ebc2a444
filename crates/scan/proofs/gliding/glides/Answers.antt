use mathlib.Core.Path.{sym, ap, ◌∙◌}
use mathlib.Core.Bool.{true≢false}
use Rattle.scan.proofs.ShortWay.{stay, data_plain, lines, quoted, names, spaces, data_in_line, line_in_line, quoted_in_line, name_in_line, space_in_line, data_no_tab, line_no_tab, quoted_no_tab, name_no_tab, space_no_tab, data_on_page, line_on_page, quoted_on_page, name_on_page, space_on_page}
use Rattle.scan.proofs.gliding.glides.Goals as goal

pub returns-then-name-eq-MDX_EXPRESSION_INSIDE : goal.returns-then-name-eq-MDX_EXPRESSION_INSIDE
returns-then-name-eq-MDX_EXPRESSION_INSIDE c =
    let k = c.if-name-eq-MDX_EXPRESSION_INSIDE.true in
    let b = c.args.b in
    record {
      stays = λ page t s q y. data_plain page t b (s ∙ k) (sym c.plain_data.ensures ∙ y) ∙ ap stay (sym k);
      in_line = λ y. data_in_line b (sym c.plain_data.ensures ∙ y);
      one_column = λ y. data_no_tab b (sym c.plain_data.ensures ∙ y);
      on_page = λ y. data_on_page b (sym c.plain_data.ensures ∙ y);
    }

pub returns-then-name-eq-MDX_ESM_INSIDE : goal.returns-then-name-eq-MDX_ESM_INSIDE
returns-then-name-eq-MDX_ESM_INSIDE c =
    let k = c.if-name-eq-MDX_ESM_INSIDE.true in
    let b = c.args.b in
    record {
      stays = λ page t s q y. lines page t b (s ∙ k) (sym c.plain_line.ensures ∙ y) ∙ ap stay (sym k);
      in_line = λ y. line_in_line b (sym c.plain_line.ensures ∙ y);
      one_column = λ y. line_no_tab b (sym c.plain_line.ensures ∙ y);
      on_page = λ y. line_on_page b (sym c.plain_line.ensures ∙ y);
    }

pub returns-then-name-eq-MDX_JSX_ATTRIBUTE_VALUE_QUOTED : goal.returns-then-name-eq-MDX_JSX_ATTRIBUTE_VALUE_QUOTED
returns-then-name-eq-MDX_JSX_ATTRIBUTE_VALUE_QUOTED c =
    let k = c.if-name-eq-MDX_JSX_ATTRIBUTE_VALUE_QUOTED.true in
    let b = c.args.b in
    let quote = c.args.quote in
    record {
      stays = λ page t s q y. quoted page t b (s ∙ k) (rw q (sym c.plain_value.ensures ∙ y)) ∙ ap stay (sym k);
      in_line = λ y. quoted_in_line b quote (sym c.plain_value.ensures ∙ y);
      one_column = λ y. quoted_no_tab b quote (sym c.plain_value.ensures ∙ y);
      on_page = λ y. quoted_on_page b quote (sym c.plain_value.ensures ∙ y);
    }

pub returns-then-inside_a_name : goal.returns-then-inside_a_name
returns-then-inside_a_name c =
    record {
      stays = λ page t s q y. names _ (sym c.id_cont.ensures ∙ y) page t (rw s (sym c.inside_a_name.ensures ∙ c.if-inside_a_name.true)) ∙ ap stay s;
      in_line = λ y. name_in_line _ (sym c.id_cont.ensures ∙ y);
      one_column = λ y. name_no_tab _ (sym c.id_cont.ensures ∙ y);
      on_page = λ y. name_on_page _ (sym c.id_cont.ensures ∙ y);
    }

pub returns-then-name-eq-MDX_JSX_ES_WHITESPACE_INSIDE : goal.returns-then-name-eq-MDX_JSX_ES_WHITESPACE_INSIDE
returns-then-name-eq-MDX_JSX_ES_WHITESPACE_INSIDE c =
    let k = c.if-name-eq-MDX_JSX_ES_WHITESPACE_INSIDE.true in
    let b = c.args.b in
    record {
      stays = λ page t s q y. spaces page t b (s ∙ k) (sym c.plain_space.ensures ∙ y) ∙ ap stay (sym k);
      in_line = λ y. space_in_line b (sym c.plain_space.ensures ∙ y);
      one_column = λ y. space_no_tab b (sym c.plain_space.ensures ∙ y);
      on_page = λ y. space_on_page b (sym c.plain_space.ensures ∙ y);
    }

pub returns-else-name-eq-MDX_JSX_ES_WHITESPACE_INSIDE : goal.returns-else-name-eq-MDX_JSX_ES_WHITESPACE_INSIDE
returns-else-name-eq-MDX_JSX_ES_WHITESPACE_INSIDE c = record { stays = λ page t s q y. absurd (true≢false (sym y)); in_line = λ y. absurd (true≢false (sym y)); one_column = λ y. absurd (true≢false (sym y)); on_page = λ y. absurd (true≢false (sym y)) }
