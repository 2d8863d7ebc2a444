-- What the short way asks and gives. No promise to a user of the library cites these.
use Rattle.std.specs.Prelude.{ℕ, zero, suc, ◌+◌, ◌-◌, ◌≤◌, ◌<◌, ◌≡◌, Bool, true, false, not, ◌&&◌, ◌||◌, List, [], ◌∷◌, eqb, min, length}
use Rattle.base.specs.Byte.{tab, line_feed, space, left_brace, right_brace, end_of_page}
use Rattle.base.specs.If.{when◌then◌else◌, among}
use Rattle.base.specs.Page.{byte_at}
use Rattle.base.specs.Range.{within}
use Rattle.base.specs.State.{mdx_expression_inside, mdx_jsx_attribute_value_quoted, mdx_jsx_es_whitespace_inside, mdx_jsx_primary_name, mdx_jsx_attribute_local_name, mdx_esm_inside}
use Rattle.base.specs.Decide.{eat}
use Rattle.base.specs.declared.InTab.TheVariants.{Outside}
use Rattle.base.specs.declared.Marks.TheVariants.{Nothing}
use Rattle.mdx_esm.specs.Esm.{line_ends}
use Rattle.mdx_jsx_attribute.specs.Attribute.{quoted_ends}
use Rattle.tokenizer.specs.declared.Tokenizer.{Tokenizer}
use Rattle.tokenizer.specs.Decision.{decision}
use Rattle.tokenizer.specs.Registers.{with_depth}
use Rattle.tokenizer.specs.Moved.{most_braces, one_more}
use Rattle.scan.specs.declared.lines.Lines.{Lines}
use Rattle.scan.specs.declared.Scan.{Scan}
use Rattle.scan.specs.Lines.{highest_column, lines_of}
use Rattle.scan.specs.Scan.{step_bound}

-- what neither ends nor nests an expression, and is one column
abbrev pub plain_data : ℕ → Bool
plain_data b = not (eqb b tab) && not (among (line_feed ∷ left_brace ∷ right_brace ∷ end_of_page ∷ []) b)

-- the same in a line of an ESM block, and in a quoted value
abbrev pub plain_line : ℕ → Bool
plain_line b = not (eqb b tab) && not (line_ends b)

abbrev pub plain_value : ℕ → ℕ → Bool
plain_value b quote = not (eqb b tab) && not (quoted_ends b quote)

-- white space inside a tag that is one column, and no line's end
abbrev pub plain_space : ℕ → Bool
plain_space b = eqb b space

-- one of the five states inside a name
abbrev pub inside_a_name : ℕ → Bool
inside_a_name name = within mdx_jsx_primary_name mdx_jsx_attribute_local_name name

-- a state that passes some bytes by a short way
abbrev pub may_glide : ℕ → Bool
may_glide name = inside_a_name name || among (mdx_expression_inside ∷ mdx_jsx_attribute_value_quoted ∷ mdx_jsx_es_whitespace_inside ∷ mdx_esm_inside ∷ []) name

-- where the test r holds of a state's number, a quote and a byte, the byte is one of the page, and the state eats it and stays, with no
-- event, in the same line and one column further
pub record Glides (name quote b : ℕ) (r : Bool) : Type 0 where
  pub stays : (page : List ℕ) (t : Tokenizer) → t.state ≡ name → t.regs.quote ≡ quote → r ≡ true → decision page t b ≡ eat name Nothing
  pub in_line : r ≡ true → eqb b line_feed ≡ false
  pub one_column : r ≡ true → eqb b tab ≡ false
  pub on_page : r ≡ true → eqb b end_of_page ≡ false

-- the same of every byte from one place to another, which is no further than a limit
pub record GlidesTo (page : List ℕ) (name quote from limit end : ℕ) : Type 0 where
  pub onward : from ≤ end
  pub within : end ≤ limit
  pub each : (i : ℕ) → from ≤ i → i < end → Glides name quote (byte_at page i) true

-- k bytes from a place on, one at least, are passed so in as many of the steps that are left
pub record Glided (page : List ℕ) (name quote at left k : ℕ) : Type 0 where
  pub some : 0 < k
  pub enough : k ≤ left
  pub on_page : at + k ≤ length page
  pub each : (i : ℕ) → i < k → Glides name quote (byte_at page (at + i)) true

-- the furthest place that so many steps can reach
abbrev pub furthest_place : ℕ → ℕ → ℕ → ℕ
furthest_place end at left = at + min left (end - at)

-- the count of steps after k more
unfoldable pub counted_on : ℕ → ℕ → ℕ → ℕ
counted_on steps bound zero = steps
counted_on steps bound (suc k) = one_more (counted_on steps bound k) bound

-- the lines k columns further
abbrev pub passed_lines : Lines → ℕ → Lines
passed_lines l k = lines_of (record { number = l.line.number; column = counted_on l.line.column highest_column k }) Outside l.kept l.fault

-- a scan after k steps, one at least, that did no more than pass a byte each
abbrev pub passed_scan : Scan → ℕ → Scan
passed_scan s k =
    let t = s.tokenizer in
    record {
      tokenizer = record { job = t.job; state = t.state; at = t.at + k; regs = t.regs; heard = t.heard };
      lines = passed_lines s.lines k;
      used = s.used;
      steps = counted_on s.steps (step_bound t.job) k;
    }

-- a brace inside an expression that its state passes: one that opens, or one that closes what was opened there
abbrev pub nests : ℕ → ℕ → ℕ → Bool
nests name depth b = eqb name mdx_expression_inside && (eqb b left_brace || eqb b right_brace && not (eqb depth 0))

-- how many are open past it
abbrev pub depth_past : ℕ → Bool → ℕ → ℕ
depth_past depth asks b = when eqb b left_brace then (when asks then depth else one_more depth most_braces) else depth - 1

-- a scan after the step over it
abbrev pub nested_scan : Scan → ℕ → Scan
nested_scan s b =
    let t = s.tokenizer in
    record {
      tokenizer = record { job = t.job; state = t.state; at = t.at + 1; regs = with_depth (depth_past t.regs.depth t.job.asks b) t.regs; heard = t.heard };
      lines = passed_lines s.lines 1;
      used = s.used;
      steps = counted_on s.steps (step_bound t.job) 1;
    }
