-- What the events of a run say of the expressions of a tag or an expression, and what its end says: the run read from any step on, forwards.
use Prim.Native.Nat.{ℕ, ◌+◌}
use mathlib.Core.Path.{◌≡◌, refl, sym, ap, ◌∙◌}
use mathlib.Core.Bool.{Bool, true, false, not, ◌&&◌, ◌||◌}
use mathlib.Core.List.{List, [], ◌∷◌, ◌++◌}
use mathlib.Core.Option.{Option, none, some}
use lib.Dec.{eqb}
use lib.ListN.{get_or}
use borrow.Author.Tests.{eqb-true, eq-eqb}
use Rattle.base.proofs.Tables.{◌&◌}
use Rattle.base.specs.If.{when◌then◌else◌, among}
use Rattle.base.proofs.Choice.{if_is, case, both, and_no, and_no'}
use Rattle.base.specs.Byte.{left_brace}
use Rattle.base.specs.Kind as kind
use Rattle.base.specs.declared.Mark.{Mark}
use Rattle.base.specs.declared.Mark.TheVariants.{Enter, Exit, Leave}
use Rattle.events.specs.declared.Event.{Event}
use Rattle.events.specs.declared.Point.{Point}
use Rattle.events.specs.Event.{event, events_at}
use Rattle.tokenizer.specs.Decision.{text, expression_token}
use Rattle.tokenizer.specs.declared.Tokenizer.{Tokenizer}
use Rattle.brace_theorems.specs.Braces.{closing_of}
use Rattle.brace_theorems.specs.Closing.{expression_kinds, opens, enters, exits, first_at}
use Rattle.scan_theorems.proofs.Tests.{clash}
use Rattle.brace_theorems.proofs.Turn.{inside, brace_of, token_of, other_marks, Same, Begun, Over, Cut}

-- ---- kinds

-- an expression's event is of an expression's kind, and its marker is not
pub token_kind : (k back : ℕ) → among expression_kinds (expression_token k back) ≡ true
unfolding among
token_kind k back =
    if_is ℕ Kind _ _ _ (λ e. refl) (λ e. if_is ℕ Kind _ _ _ (λ f. refl) (λ f. if_is ℕ Kind (eqb k text) _ _ (λ g. refl) (λ g. refl)))
  where
    Kind : ℕ → Type 0
    Kind token = among expression_kinds token ≡ true

marker_kind : among expression_kinds kind.expression_marker ≡ false
unfolding among
marker_kind = refl

-- another kind is not the expression's
differ : (k token : ℕ) → among expression_kinds k ≡ false → among expression_kinds token ≡ true → eqb k token ≡ false
differ k token n y = case _ (eqb k token) (λ e. clash (among expression_kinds k) (rw (eqb-true k token e) y) n) (λ e. e)

-- ---- lists of events

module _ (test : Event → Bool) (e : Event) (events : List Event) where
  pub first_here : test e ≡ true → first_at test (e ∷ events) ≡ some e.offset
  unfolding first_at when◌then◌else◌
  first_here h = rw h refl

  pub first_later : test e ≡ false → first_at test (e ∷ events) ≡ first_at test events
  unfolding first_at when◌then◌else◌
  first_later h = rw h refl

-- one past the closing offset, if there is one
abbrev pub past : Option ℕ → Option ℕ
past none = none
past (some c) = some (c + 1)

abbrev pub is_none : Option ℕ → Bool
is_none none = true
is_none (some c) = false

-- an expression that is opened closes by the rule
pub record Right (page : List ℕ) (e : Event) (behind : List Event) : Type 0 where
  pub brace : get_or page e.offset 0 ≡ left_brace
  pub marker : first_at (enters kind.expression_marker) behind ≡ some e.offset
  pub exit : first_at (exits e.kind) behind ≡ past (closing_of page e.offset)

abbrev pub AllRight : List ℕ → List Event → Type 0
AllRight page [] = Unit {0}
AllRight page (e ∷ events) = (opens e ≡ true → Right page e events) × AllRight page events

-- one that is opened has no closing offset
abbrev pub unclosed : List ℕ → Event → Bool
unclosed page e = opens e && is_none (closing_of page e.offset)

abbrev pub any_unclosed : List ℕ → List Event → Bool
any_unclosed page [] = false
any_unclosed page (e ∷ events) = unclosed page e || any_unclosed page events

-- ---- events of other kinds

abbrev Others : List Event → Type 0
Others [] = Unit {0}
Others (e ∷ events) = (among expression_kinds e.kind ≡ false) × Others events

no_kind : (k : ℕ) → not (among expression_kinds k) ≡ true → among expression_kinds k ≡ false
no_kind k h = case _ (among expression_kinds k) (λ e. clash false (rw e at h) refl) (λ e. e)

others_marked : (here there : Point) (marks : List Mark) → other_marks marks ≡ true → Others (events_at here there marks)
others_marked here there [] h = tt
others_marked here there (Enter k ∷ marks) h = let p = both (not (among expression_kinds k)) (other_marks marks) h in (no_kind k p.0, others_marked here there marks p.1)
others_marked here there (Exit k ∷ marks) h = let p = both (not (among expression_kinds k)) (other_marks marks) h in (no_kind k p.0, others_marked here there marks p.1)
others_marked here there (Leave k ∷ marks) h = let p = both (not (among expression_kinds k)) (other_marks marks) h in (no_kind k p.0, others_marked here there marks p.1)

-- such an event opens nothing
opens_none : (e : Event) → among expression_kinds e.kind ≡ false → opens e ≡ false
opens_none e h = and_no' (not e.exit) _ h

-- nor does an exit
exit_opens_none : (e : Event) → e.exit ≡ true → opens e ≡ false
exit_opens_none e h = and_no (not e.exit) _ (rw h refl)

module _ (page : List ℕ) (more : List Event) where
  skip_first : (token : ℕ) → among expression_kinds token ≡ true → (events : List Event) → Others events → first_at (exits token) (events ++ more) ≡ first_at (exits token) more
  skip_first token y [] o = refl
  skip_first token y (e ∷ events) o =
      first_later (exits token) e (events ++ more) (and_no' e.exit _ (differ e.kind token o.0 y)) ∙ skip_first token y events o.1

  skip_right : (events : List Event) → Others events → AllRight page more → AllRight page (events ++ more)
  skip_right [] o r = r
  skip_right (e ∷ events) o r = (λ y. clash (opens e) y (opens_none e o.0), skip_right events o.1 r)

  skip_any : (events : List Event) → Others events → any_unclosed page (events ++ more) ≡ any_unclosed page more
  skip_any [] o = refl
  skip_any (e ∷ events) o = rw (and_no (opens e) (is_none (closing_of page e.offset)) (opens_none e o.0)) (skip_any events o.1)

-- ---- from a step on

-- the events that come, and whether the run ends in an expression, for the expression that is open and those that are opened
pub record Outcome (page : List ℕ) (t : Tokenizer) (events : List Event) (ends : Bool) : Type 0 where
  pub own : inside t.state ≡ true → first_at (exits (token_of t)) events ≡ past (closing_of page (brace_of t))
  pub each : AllRight page events
  pub six : ends ≡ ((inside t.state && is_none (closing_of page (brace_of t))) || any_unclosed page events)

module _ (page : List ℕ) (t u : Tokenizer) (here there : Point) (at : here.offset ≡ t.at) (after : there.offset ≡ t.at + 1) where
  abbrev token : ℕ
  token = token_of t

  abbrev is_token : among expression_kinds token ≡ true
  is_token = token_kind t.job.kind t.regs.back

  abbrev marked : Event
  marked = event kind.expression_marker false here

  abbrev unmarked : Event
  unmarked = event kind.expression_marker true there

  -- the marker's exit is not the expression's, and its enter is no exit
  exit_later : (more : List Event) → first_at (exits token) (marked ∷ unmarked ∷ more) ≡ first_at (exits token) more
  exit_later more =
      first_later (exits token) marked (unmarked ∷ more) refl ∙ first_later (exits token) unmarked more (differ kind.expression_marker token marker_kind is_token)

  module _ (more : List Event) (ends : Bool) (next : Outcome page u more ends) where
    -- the same expression stays open, or none
    pub after_same : (marks : List Mark) → other_marks marks ≡ true → Same page t u → Outcome page t (events_at here there marks ++ more) ends
    after_same marks o s =
        let others = others_marked here there marks o in
        record {
          own = λ i.
              skip_first page more token is_token (events_at here there marks) others
              ∙ rw (s.token i, s.brace i) at (next.own (s.alike ∙ i));
          each = skip_right page more (events_at here there marks) others next.each;
          six = next.six ∙ same_six;
        }
      where
        same_six : ((inside u.state && is_none (closing_of page (brace_of u))) || any_unclosed page more) ≡ ((inside t.state && is_none (closing_of page (brace_of t))) || any_unclosed page (events_at here there marks ++ more))
        same_six =
            case _ (inside t.state)
            (λ i. rw (s.alike, s.brace i, skip_any page more (events_at here there marks) (others_marked here there marks o)) refl)
            (λ i. rw (s.alike, i, skip_any page more (events_at here there marks) (others_marked here there marks o)) refl)

    -- an expression is opened
    pub after_begun : Begun page t u → Outcome page t (event token false here ∷ marked ∷ unmarked ∷ more) ends
    after_begun b =
        let opened = event token false here in
        record {
          own = λ i. clash (inside t.state) i b.was;
          each =
              (λ y. record {
                brace = rw at b.byte;
                marker = first_here (enters kind.expression_marker) marked (unmarked ∷ more) (eq-eqb kind.expression_marker kind.expression_marker refl);
                exit = exit_later more ∙ rw (b.token, b.brace, sym at) at (next.own b.now);
              })
              & (λ y. clash (opens marked) y (opens_none marked marker_kind))
              & (λ y. clash (opens unmarked) y (opens_none unmarked marker_kind))
              & next.each;
          six = next.six ∙ rw (b.now, b.was, b.brace, at, is_token, marker_kind) refl;
        }

    -- the open expression is closed
    pub after_over : Over page t u → Outcome page t (marked ∷ unmarked ∷ event token true there ∷ more) ends
    after_over o =
        let closed = event token true there in
        record {
          own = λ i. exit_later (closed ∷ more) ∙ first_here (exits token) closed more (eq-eqb token token refl) ∙ ap some after ∙ sym (ap past o.closing);
          each =
              (λ y. clash (opens marked) y (opens_none marked marker_kind))
              & (λ y. clash (opens unmarked) y (opens_none unmarked marker_kind))
              & (λ y. clash (opens closed) y (exit_opens_none closed refl))
              & next.each;
          six = next.six ∙ rw (o.now, o.was, o.closing, marker_kind) refl;
        }

  -- the page ends in it
  pub after_cut : Cut page t u → Outcome page t [] true
  unfolding first_at
  after_cut c = record { own = λ i. sym (ap past c.closing); each = tt; six = rw (c.was, c.closing) refl }
