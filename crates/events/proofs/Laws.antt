-- Laws of events in words: what is written is read again, what stands elsewhere stays, and two writings are one.
use Prim.Native.Nat.{ℕ, zero, suc, ◌+◌, ◌*◌, ◌/◌, ◌%◌, ◌≤◌, ◌<◌}
use native.Mathlib.Omega.{arith}
use native.Mathlib.Nat.{add-zero}
use mathlib.Core.Path.{◌≡◌, refl, sym, ap, ap₂, ◌∙◌}
use mathlib.Core.Bool.{Bool, true, false}
use mathlib.Core.List.{List, [], ◌∷◌, ◌++◌, append_assoc}
use lib.Dec.{eqb}
use lib.ListN.{length, get_or, set, take, drop, length-append}
use lib.Seq.{sets, sets-eq, length-sets, get_or-append-add}
use Rattle.base.specs.If.{when◌then◌else◌}
use Rattle.base.specs.declared.InTab.{InTab}
use Rattle.base.specs.declared.InTab.TheVariants.{Outside, Past1, Past2, Past3}
use Rattle.base.specs.Tab.{columns_of}
use Rattle.base.proofs.Tabs.{columns_few}
use Rattle.base.specs.declared.Mark.{Mark}
use Rattle.base.specs.declared.Mark.TheVariants.{Enter, Exit, Leave}
use Rattle.base.specs.declared.Marks.{Marks}
use Rattle.base.specs.declared.Marks.TheVariants.{Nothing, One, Two, Three, Four}
use Rattle.base.specs.Decide.{list_of, count_of}
use Rattle.events.specs.declared.Point.{Point}
use Rattle.events.specs.declared.Event.{Event}
use Rattle.events.specs.Event.{point, event, event_at, point_of, events_at}
use Rattle.std.specs.Prelude.{Some, None}
use Rattle.std.specs.List.{slice_get}
use Rattle.std.proofs.lemmas.Option.{slice_get_within, get_or_from_slice_get}
use Rattle.std.proofs.lemmas.List.{length-take-le, take_all, take_more}
use Rattle.events.specs.Marks.{mark_in}
use Rattle.events.specs.Words.{width, kind_word, encode, written, mark_word, in_tab, event_in, events_in}

-- ---- counts

pub count_is : (m : Marks) (here past : Point) → length (events_at here past (list_of m)) ≡ count_of m
count_is Nothing here past = refl
count_is (One a) here past = refl
count_is (Two a b) here past = refl
count_is (Three a b c) here past = refl
count_is (Four a b c d) here past = refl

-- an event has four words
pub encode_long : (es : List Event) → length (encode es) ≡ length es * width
encode_long [] = refl
encode_long (e ∷ es) = omega (arith, encode_long es)

pub encode_append : (a b : List Event) → encode (a ++ b) ≡ encode a ++ encode b
encode_append [] b = refl
encode_append (e ∷ a) b = ap (λ (l : List ℕ). kind_word e.kind e.tab e.exit ∷ e.offset ∷ e.line ∷ e.column ∷ l) (encode_append a b)

-- ---- writing

-- one run of stores after another
pub sets_append : (a b words : List ℕ) (i : ℕ) → sets words i (a ++ b) ≡ sets (sets words i a) (i + length a) b
sets_append [] b words i = rw add-zero
sets_append (x ∷ a) b words i =
    let e : suc i + length a ≡ i + suc (length a) = omega arith in
    sets_append a b (set words i x) (suc i) ∙ ap (λ (k : ℕ). sets (sets (set words i x) (suc i) a) k b) e

-- events written in two parts are written at once
pub written_append : (words : List ℕ) (k : ℕ) (a b : List Event) → written (written words k a) (k + length a) b ≡ written words k (a ++ b)
unfolding written
written_append words k a b =
    let e : k * width + length (encode a) ≡ (k + length a) * width = omega (arith, encode_long a) in
    sym (ap (sets words (k * width)) (encode_append a b) ∙ sets_append (encode a) (encode b) words (k * width) ∙ ap (λ (i : ℕ). sets (sets words (k * width) (encode a)) i (encode b)) e)

pub written_none : (words : List ℕ) (k : ℕ) → written words k [] ≡ words
unfolding written
written_none words k = refl

pub written_long : (words : List ℕ) (k : ℕ) (es : List Event) → length (written words k es) ≡ length words
unfolding written
written_long words k es = length-sets words (k * width) (encode es)

-- where they fit: what stands before event k is kept, and so is what stands behind the last of them
pub written_is : (words : List ℕ) (k : ℕ) (es : List Event) → (k + length es) * width ≤ length words
    → written words k es ≡ take (k * width) words ++ encode es ++ drop ((k + length es) * width) words
unfolding written
written_is words k es h =
    let l = encode_long es in
    let e : k * width + length (encode es) ≡ (k + length es) * width = omega (arith, l) in
    sets-eq (encode es) words (k * width) (omega (arith, l)) ∙ ap (λ (n : ℕ). take (k * width) words ++ encode es ++ drop n words) e

-- ---- the words of one mark

-- the words of an event, stored one after the other
stored : List ℕ → ℕ → ℕ → Point → List ℕ
stored words i first p = set (set (set (set words i first) (i + 1) p.offset) (i + 2) p.line) (i + 3) p.column

stored_is : (words : List ℕ) (i first : ℕ) (p : Point) → stored words i first p ≡ sets words i (first ∷ p.offset ∷ p.line ∷ p.column ∷ [])
unfolding stored
stored_is words i first p =
    let e₁ : i + 1 ≡ suc i = omega arith in
    let e₂ : i + 2 ≡ suc (suc i) = omega arith in
    let e₃ : i + 3 ≡ suc (suc (suc i)) = omega arith in
    rw (e₁, e₂, e₃)

pub one_written : (words : List ℕ) (k : ℕ) (here past : Point) (m : Mark) →
    set (set (set (set words (k * 4) (mark_word m (point_of here past m).tab)) (k * 4 + 1) (point_of here past m).offset) (k * 4 + 2) (point_of here past m).line) (k * 4 + 3) (point_of here past m).column
    ≡ written words k (events_at here past (m ∷ []))
unfolding stored written
one_written words k here past (Enter kind) = stored_is words (k * 4) (kind_word kind here.tab false) here
one_written words k here past (Exit kind) = stored_is words (k * 4) (kind_word kind here.tab true) here
one_written words k here past (Leave kind) = stored_is words (k * 4) (kind_word kind past.tab true) past

-- ---- the marks of a step, written one by one

pub at_most_four : (m : Marks) → count_of m ≤ 4
at_most_four Nothing = omega arith
at_most_four (One a) = omega arith
at_most_four (Two a b) = omega arith
at_most_four (Three a b c) = omega arith
at_most_four (Four a b c d) = omega arith

events_append : (here past : Point) (a b : List Mark) → events_at here past (a ++ b) ≡ events_at here past a ++ events_at here past b
events_append here past [] b = refl
events_append here past (x ∷ a) b = ap (λ (es : List Event). event_at here past x ∷ es) (events_append here past a b)

events_long : (here past : Point) (l : List Mark) → length (events_at here past l) ≡ length l
events_long here past [] = refl
events_long here past (x ∷ l) = omega (arith, events_long here past l)

-- where there is no mark n, there are n at the most
none_left : (l : List Mark) (n : ℕ) → slice_get l n ≡ None → length l ≤ n
none_left [] n e = omega arith
none_left (x ∷ l) zero e = cc
none_left (x ∷ l) (suc n) e = omega (arith, none_left l n e)

module _ (words : List ℕ) (k : ℕ) (here past : Point) (m : Marks) where
  -- the words with the events of the first n marks
  unfoldable pub up_to : ℕ → List ℕ
  up_to n = written words k (events_at here past (take n (list_of m)))

  pub up_to_none : words ≡ up_to 0
  unfolding up_to
  up_to_none = sym (written_none words k)

  -- mark n is written behind those before it
  pub up_to_more : (n i : ℕ) (before after : List ℕ) (a : Mark) → mark_in m n ≡ Some a → i ≡ k + n → before ≡ up_to n
      → after ≡ written before i (events_at here past (a ∷ [])) → after ≡ up_to (n + 1)
  unfolding up_to
  up_to_more n i before after a is e b w =
      let l = list_of m in
      let h = slice_get_within l n a is in
      let firsts = take n l in
      let long : length (events_at here past firsts) ≡ n = events_long here past firsts ∙ length-take-le n l (omega (arith, h)) in
      let more : take (n + 1) l ≡ firsts ++ a ∷ [] = take_more l n a h ∙ ap (λ (x : Mark). firsts ++ x ∷ []) (get_or_from_slice_get l n a a is) in
      let i_is : i ≡ k + length (events_at here past firsts) = omega (arith, e, long) in
      rw (i_is, b) at w
      ∙ written_append words k (events_at here past firsts) (events_at here past (a ∷ []))
      ∙ ap (written words k) (sym (events_append here past firsts (a ∷ [])) ∙ ap (events_at here past) (sym more))

  -- and there is none behind the last
  pub up_to_all : (n : ℕ) → mark_in m n ≡ None → up_to n ≡ written words k (events_at here past (list_of m))
  unfolding up_to
  up_to_all n e = ap (λ (l : List Mark). written words k (events_at here past l)) (take_all n (list_of m) (none_left (list_of m) n e))

  pub up_to_four : up_to 4 ≡ written words k (events_at here past (list_of m))
  unfolding up_to
  up_to_four = ap (λ (l : List Mark). written words k (events_at here past l)) (take_all 4 (list_of m) (omega (arith, events_long here past (list_of m), count_is m here past, at_most_four m)))

-- ---- reading what was written

-- the first word's parts: v columns of a tab, and x for an exit or none
module _ (kind v x : ℕ) (h : v < 4) (g : x < 2) where
  kind_part : (kind * 8 + v * 2 + x) / 8 ≡ kind
  kind_part = omega arith

  tab_part : (kind * 8 + v * 2 + x) / 2 % 4 ≡ v
  tab_part = omega arith

  exit_part : (kind * 8 + v * 2 + x) % 2 ≡ x
  exit_part = omega arith

tab_again : (tab : InTab) → in_tab (columns_of tab) ≡ tab
unfolding when◌then◌else◌
tab_again Outside = refl
tab_again Past1 = refl
tab_again Past2 = refl
tab_again Past3 = refl

-- the words of an event say it
abbrev said_back : ℕ → Point → Event
said_back first p = event (first / 8) (eqb (first % 2) 1) (point p.offset p.line p.column (in_tab (first / 2 % 4)))

said : (kind : ℕ) (exit : Bool) (p : Point) → said_back (kind_word kind p.tab exit) p ≡ event kind exit p
said kind false p =
    let c = columns_of p.tab in
    let h = columns_few p.tab in
    let e : kind * 8 + c * 2 ≡ kind * 8 + c * 2 + 0 = omega arith in
    rw e (rw (kind_part kind c 0 h (omega arith), tab_part kind c 0 h (omega arith), exit_part kind c 0 h (omega arith), tab_again p.tab))
said kind true p =
    let c = columns_of p.tab in
    let h = columns_few p.tab in
    rw (kind_part kind c 1 h (omega arith), tab_part kind c 1 h (omega arith), exit_part kind c 1 h (omega arith), tab_again p.tab)

-- event k, behind k others
read_one : (before : List Event) (e : Event) (rest : List ℕ) → event_in (encode before ++ kind_word e.kind e.tab e.exit ∷ e.offset ∷ e.line ∷ e.column ∷ rest) (length before) ≡ e
read_one before e rest =
    let first = kind_word e.kind e.tab e.exit in
    let four = first ∷ e.offset ∷ e.line ∷ e.column ∷ rest in
    let words = encode before ++ four in
    let l = encode_long before in
    let w : (j : ℕ) → get_or words (length before * width + j) 0 ≡ get_or four j 0 =
    λ j. ap (λ (i : ℕ). get_or words i 0) (omega (arith, l)) ∙ get_or-append-add (encode before) four j 0 in
    let p : get_or words (length before * width) 0 ≡ first = ap (λ (i : ℕ). get_or words i 0) (omega arith) ∙ w 0 in
    ap (λ (f : ℕ). said_back f (point (get_or words (length before * width + 1) 0) (get_or words (length before * width + 2) 0) (get_or words (length before * width + 3) 0) e.tab)) p
    ∙ rw (w 1, w 2, w 3) (said e.kind e.exit (point e.offset e.line e.column e.tab))

read_from : (before es : List Event) (rest : List ℕ) → events_in (encode before ++ (encode es ++ rest)) (length before) (length es) ≡ es
unfolding events_in
read_from before [] rest = refl
read_from before (e ∷ es) rest =
    let more = before ++ (e ∷ []) in
    let words = encode before ++ (encode (e ∷ es) ++ rest) in
    let n : length before + 1 ≡ length more = omega (arith, length-append before (e ∷ [])) in
    let w : words ≡ encode more ++ (encode es ++ rest) =
    sym (ap (λ (l : List ℕ). l ++ (encode es ++ rest)) (encode_append before (e ∷ [])) ∙ append_assoc (encode before) _ (encode es ++ rest)) in
    ap₂ (λ (x : Event) (xs : List Event). x ∷ xs) (read_one before e (encode es ++ rest))
    (ap₂ (λ (l : List ℕ) (k : ℕ). events_in l k (length es)) w n ∙ read_from more es rest)

-- the events at the front of the words are the events that were written there
pub encoded_read : (es : List Event) (rest : List ℕ) → events_in (encode es ++ rest) 0 (length es) ≡ es
encoded_read es rest = read_from [] es rest
