-- The short way is the general one: where a state passes a byte so, its decision is to eat the byte and stay.
use Prim.Native.Nat.{ℕ, ◌≤◌}
use native.Mathlib.Omega.{arith}
use mathlib.Core.Path.{◌≡◌, refl, sym, ap, ◌∙◌}
use mathlib.Core.Bool.{Bool, true, false, not}
use mathlib.Core.List.{List}
use lib.Dec.{eqb}
use borrow.Author.Tests.{eqb-true, eqb-false, ne_eqb}
use Rattle.base.specs.Byte.{tab, line_feed, space, left_brace, right_brace, end_of_page}
use Rattle.base.specs.If.{when◌then◌else◌, among}
use Rattle.base.proofs.Choice.{case, both, and_no, and_no', or_no, or_cases, or_left, or_right, not_yes}
use Rattle.base.specs.Range.{within}
use Rattle.base.proofs.Ranges.{within_is, below, above}
use Rattle.base.specs.Table.{find}
use Rattle.base.specs.Decide.{eat, eat_with}
use Rattle.base.specs.declared.Effect.TheVariants.{Deeper, Shallower}
use Rattle.base.specs.declared.Marks.TheVariants.{Nothing}
use Rattle.base.specs.declared.Move.{Move}
use Rattle.char_class.specs.Class.{is_whitespace, is_id_start, is_id_cont}
use Rattle.mdx_jsx.specs.Jsx.{whitespace_or_end, tag_goes_on}
use Rattle.mdx_jsx_attribute.specs.Attribute.{quoted_ends}
use Rattle.mdx_esm.specs.Esm.{line_ends}
use Rattle.tokenizer.specs.declared.Tokenizer.{Tokenizer}
use Rattle.tokenizer.specs.Decision.{not_ascii, takes_ascii, refuses_not_ascii, esm_decision, attribute_decision, tag_decision, expression_decision, state_decision, decision}
use Rattle.scan.specs.Gliding.{plain_data, plain_line, plain_value, plain_space, inside_a_name}

-- the byte is eaten, and the state stays
abbrev pub stay : ℕ → Move
stay name = eat name Nothing

-- ---- what continues a name

-- it is a letter, a digit, `$`, `-` or `_`, and so between 36 and 122
id_cont_range : (b : ℕ) → is_id_cont b ≡ true → (36 ≤ b) × (b ≤ 122)
unfolding is_id_cont is_id_start among
id_cont_range b e =
    let P = (36 ≤ b) × (b ≤ 122) in
    or_cases P _ _ e
    (λ d. or_cases P _ _ d (λ h. let r = within_is 48 57 b h in omega arith) (λ h. let r = eqb-true b 45 h in omega arith))
    (λ d. or_cases P _ _ d
    (λ l. or_cases P _ _ l (λ h. let r = within_is 65 90 b h in omega arith) (λ h. let r = within_is 97 122 b h in omega arith))
    (λ s. or_cases P _ _ s (λ h. let r = eqb-true b 36 h in omega arith)
    (λ h. or_cases P _ _ h (λ h. let r = eqb-true b 95 h in omega arith) (λ h. let z : ◌≡◌ {A = ℕ} 0 1 = cc in omega (arith, z)))))

module _ (b : ℕ) (e : is_id_cont b ≡ true) where
  -- it is none of the bytes that end a name
  other : (k : ℕ) → is_id_cont k ≡ false → eqb b k ≡ false
  other k f = ne_eqb b k (λ q. let z : ◌≡◌ {A = Bool} true false = sym e ∙ ap is_id_cont q ∙ f in let y : ◌≡◌ {A = ℕ} 0 1 = cc in omega (arith, y))

  no_white : whitespace_or_end b ≡ false
  unfolding is_whitespace
  no_white =
      let r = id_cont_range b e in
      or_no _ _ (ne_eqb b 256 (λ q. omega arith)) (or_no _ _ (above 9 13 b (omega arith)) (ne_eqb b 32 (λ q. omega arith)))

  no_end : tag_goes_on b ≡ false
  unfolding among is_id_cont is_id_start within
  no_end = or_no _ _ (other 47 refl) (or_no _ _ (other 62 refl) (or_no _ _ (other 123 refl) refl))

  ascii : (name : ℕ) → refuses_not_ascii name b ≡ false
  ascii name = let r = id_cont_range b e in and_no _ _ (below 128 255 b (omega arith))

  -- ---- the five states inside a name

  module _ (page : List ℕ) (t : Tokenizer) where
    primary : t.state ≡ 58 → decision page t b ≡ eat 58 Nothing
    unfolding decision state_decision tag_decision attribute_decision find when◌then◌else◌ is_id_cont is_id_start within among
    primary h = rw h (simp (ascii 58, no_white, no_end, other 46 refl, other 58 refl, e))

    member : t.state ≡ 59 → decision page t b ≡ eat 59 Nothing
    unfolding decision state_decision tag_decision attribute_decision find when◌then◌else◌ is_id_cont is_id_start within among
    member h = rw h (simp (ascii 59, no_white, no_end, other 46 refl, e))

    local : t.state ≡ 60 → decision page t b ≡ eat 60 Nothing
    unfolding decision state_decision tag_decision attribute_decision find when◌then◌else◌ is_id_cont is_id_start within among
    local h = rw h (simp (ascii 60, no_white, no_end, e))

    attribute_primary : t.state ≡ 61 → decision page t b ≡ eat 61 Nothing
    unfolding decision state_decision tag_decision attribute_decision find when◌then◌else◌ is_id_cont is_id_start within among
    attribute_primary h = rw h (simp (ascii 61, no_white, no_end, other 58 refl, other 61 refl, e))

    attribute_local : t.state ≡ 62 → decision page t b ≡ eat 62 Nothing
    unfolding decision state_decision tag_decision attribute_decision find when◌then◌else◌ is_id_cont is_id_start within among
    attribute_local h = rw h (simp (ascii 62, no_white, no_end, other 61 refl, e))

    pub names : inside_a_name t.state ≡ true → decision page t b ≡ eat t.state Nothing
    names h =
        let n = t.state in
        let r = within_is 58 62 n h in
        let P = decision page t b ≡ eat n Nothing in
        case P (eqb n 58) (λ q. let k = eqb-true n 58 q in primary k ∙ ap stay (sym k))
        (λ d₁. case P (eqb n 59) (λ q. let k = eqb-true n 59 q in member k ∙ ap stay (sym k))
        (λ d₂. case P (eqb n 60) (λ q. let k = eqb-true n 60 q in local k ∙ ap stay (sym k))
        (λ d₃. case P (eqb n 61) (λ q. let k = eqb-true n 61 q in attribute_primary k ∙ ap stay (sym k))
        (λ d₄. case P (eqb n 62) (λ q. let k = eqb-true n 62 q in attribute_local k ∙ ap stay (sym k))
        (λ d₅. absurd (omega (arith, eqb-false n 58 d₁, eqb-false n 59 d₂, eqb-false n 60 d₃, eqb-false n 61 d₄, eqb-false n 62 d₅)))))))

-- ---- data, quoted values, ESM

module _ (page : List ℕ) (t : Tokenizer) (b : ℕ) where
  pub data_plain : t.state ≡ 34 → plain_data b ≡ true → decision page t b ≡ eat 34 Nothing
  unfolding decision state_decision expression_decision find when◌then◌else◌ within among
  data_plain h e =
      let n = not_yes _ (both (not (eqb b tab)) _ e).1 in
      let f = or_right (eqb b line_feed) _ n in
      let g = or_right (eqb b left_brace) _ f in
      let k = or_right (eqb b right_brace) _ g in
      rw h (simp (and_no' (not_ascii b) (takes_ascii 34) refl, or_left (eqb b end_of_page) _ k, or_left (eqb b line_feed) _ n, or_left (eqb b left_brace) _ f, or_left (eqb b right_brace) _ g))

  pub quoted : t.state ≡ 39 → plain_value b t.regs.quote ≡ true → decision page t b ≡ eat 39 Nothing
  unfolding decision state_decision tag_decision attribute_decision find when◌then◌else◌ within
  quoted h e = rw h (simp (and_no' (not_ascii b) (takes_ascii 39) refl, not_yes (quoted_ends b t.regs.quote) (both (not (eqb b tab)) _ e).1))

  pub lines : t.state ≡ 70 → plain_line b ≡ true → decision page t b ≡ eat 70 Nothing
  unfolding decision state_decision esm_decision find when◌then◌else◌ within
  lines h e = rw h (simp (and_no' (not_ascii b) (takes_ascii 70) refl, not_yes (line_ends b) (both (not (eqb b tab)) _ e).1))

  pub spaces : t.state ≡ 64 → plain_space b ≡ true → decision page t b ≡ eat 64 Nothing
  unfolding decision state_decision tag_decision attribute_decision find when◌then◌else◌ within is_whitespace
  spaces h e = rw (h, eqb-true b space e)

-- ---- braces inside an expression

module _ (page : List ℕ) (t : Tokenizer) (inside : t.state ≡ 34) where
  pub opens_unasked : t.job.asks ≡ true → decision page t left_brace ≡ eat 34 Nothing
  unfolding decision state_decision expression_decision find when◌then◌else◌ within
  opens_unasked a = rw (inside, a)

  pub opens : t.job.asks ≡ false → decision page t left_brace ≡ eat_with 34 Nothing Deeper
  unfolding decision state_decision expression_decision find when◌then◌else◌ within
  opens a = rw (inside, a)

  pub shuts : eqb t.regs.depth 0 ≡ false → decision page t right_brace ≡ eat_with 34 Nothing Shallower
  unfolding decision state_decision expression_decision find when◌then◌else◌ within
  shuts d = rw (inside, d)

-- ---- no line feed is passed

pub data_in_line : (b : ℕ) → plain_data b ≡ true → eqb b line_feed ≡ false
unfolding among
data_in_line b e = or_left (eqb b line_feed) _ (not_yes _ (both (not (eqb b tab)) _ e).1)

pub line_in_line : (b : ℕ) → plain_line b ≡ true → eqb b line_feed ≡ false
unfolding among
line_in_line b e = or_left (eqb b line_feed) _ (not_yes (line_ends b) (both (not (eqb b tab)) _ e).1)

pub quoted_in_line : (b quote : ℕ) → plain_value b quote ≡ true → eqb b line_feed ≡ false
quoted_in_line b quote e = or_left (eqb b line_feed) _ (or_right (eqb b quote) _ (not_yes (quoted_ends b quote) (both (not (eqb b tab)) _ e).1))

pub name_in_line : (b : ℕ) → is_id_cont b ≡ true → eqb b line_feed ≡ false
name_in_line b e = ne_eqb b line_feed (λ q. let r = id_cont_range b e in omega (arith, q))

pub space_in_line : (b : ℕ) → plain_space b ≡ true → eqb b line_feed ≡ false
space_in_line b e = rw (eqb-true b space e)

-- ---- nor a tab

pub data_no_tab : (b : ℕ) → plain_data b ≡ true → eqb b tab ≡ false
data_no_tab b e = not_yes (eqb b tab) (both (not (eqb b tab)) _ e).0

pub line_no_tab : (b : ℕ) → plain_line b ≡ true → eqb b tab ≡ false
line_no_tab b e = not_yes (eqb b tab) (both (not (eqb b tab)) _ e).0

pub quoted_no_tab : (b quote : ℕ) → plain_value b quote ≡ true → eqb b tab ≡ false
quoted_no_tab b quote e = not_yes (eqb b tab) (both (not (eqb b tab)) _ e).0

pub name_no_tab : (b : ℕ) → is_id_cont b ≡ true → eqb b tab ≡ false
name_no_tab b e = ne_eqb b tab (λ q. let r = id_cont_range b e in omega (arith, q))

pub space_no_tab : (b : ℕ) → plain_space b ≡ true → eqb b tab ≡ false
space_no_tab b e = rw (eqb-true b space e)

-- ---- nor the page's end

pub data_on_page : (b : ℕ) → plain_data b ≡ true → eqb b end_of_page ≡ false
unfolding among
data_on_page b e =
    or_left (eqb b end_of_page) _ (or_right (eqb b right_brace) _ (or_right (eqb b left_brace) _ (or_right (eqb b line_feed) _ (not_yes _ (both (not (eqb b tab)) _ e).1))))

pub line_on_page : (b : ℕ) → plain_line b ≡ true → eqb b end_of_page ≡ false
unfolding among
line_on_page b e = or_left (eqb b end_of_page) _ (or_right (eqb b line_feed) _ (not_yes (line_ends b) (both (not (eqb b tab)) _ e).1))

pub quoted_on_page : (b quote : ℕ) → plain_value b quote ≡ true → eqb b end_of_page ≡ false
quoted_on_page b quote e = or_right (eqb b line_feed) _ (or_right (eqb b quote) _ (not_yes (quoted_ends b quote) (both (not (eqb b tab)) _ e).1))

pub name_on_page : (b : ℕ) → is_id_cont b ≡ true → eqb b end_of_page ≡ false
name_on_page b e = ne_eqb b end_of_page (λ q. let r = id_cont_range b e in omega (arith, q))

pub space_on_page : (b : ℕ) → plain_space b ≡ true → eqb b end_of_page ≡ false
space_on_page b e = rw (eqb-true b space e)
