-- The event buffer after a list holds the events of its records, one after the other, and behind them stands what was lent.
use Prim.Native.Nat.{ℕ, ◌+◌, ◌*◌, ◌≤◌}
use native.Mathlib.Nat.{add-zero, zero-add}
use native.Mathlib.Omega.{arith}
use mathlib.Core.Path.{◌≡◌, refl, sym, ap, ◌∙◌}
use mathlib.Core.Bool.{true}
use mathlib.Core.List.{List, [], ◌∷◌, ◌++◌, append_assoc}
use lib.Dec.{eqb}
use lib.ListN.{length, take, drop, length-append, length-drop, take-append-drop}
use lib.Seq.{length-take-le, take_at, drop-append-add, drop-drop}
use Rattle.base.specs.If.{when◌then◌else◌}
use Rattle.base.specs.State.{full}
use Rattle.base.proofs.Choice.{case, both}
use Rattle.events.specs.declared.Event.{Event}
use Rattle.events.specs.Words.{width, encode}
use Rattle.events.proofs.Laws.{encode_long, encode_append}
use Rattle.batch.specs.declared.Opening.{Opening}
use Rattle.batch.specs.declared.Filled.{Filled}
use Rattle.batch.specs.Record.{filled_of}
use Rattle.batch.specs.Batch.{counting, all_counting, Batch, batch, behind, called, record_of, words_of, fill_from, batch_of}
use Rattle.batch_theorems.specs.Statement.{opening_events, list_events, BufferIs}
use Rattle.batch_theorems.proofs.Answered.{record_answered}
use Rattle.batch_theorems.proofs.Written.{Wrote, call_writes}

-- ---- words with events behind others

-- the words are as lent, but for these events behind `used` others
record Holds (lent : List ℕ) (used : ℕ) (after : List ℕ) (es : List Event) : Type 0 where
  fits : (used + length es) * width ≤ length lent
  hold : after ≡ take (used * width) lent ++ (encode es ++ drop ((used + length es) * width) lent)

holds_none : (lent : List ℕ) (used : ℕ) → used * width ≤ length lent → Holds lent used lent []
holds_none lent used h = record { fits = omega arith; hold = rw add-zero (sym (take-append-drop (used * width) lent)) }

-- events, and more behind them
module _ (lent : List ℕ) (used : ℕ) (mid : List ℕ) (es : List Event) (h : Holds lent used mid es) where
  -- the words up to the end of the events, and where that is
  front : List ℕ
  front = take (used * width) lent ++ encode es

  abbrev end : ℕ
  end = (used + length es) * width

  front_long : length front ≡ end
  unfolding front
  front_long = omega (arith, h.fits, length-append (take (used * width) lent) (encode es), length-take-le (used * width) lent (omega (arith, h.fits)), encode_long es)

  parted : mid ≡ front ++ drop end lent
  unfolding front
  parted = h.hold ∙ sym (append_assoc (take (used * width) lent) (encode es) (drop end lent))

  mid_long : length mid ≡ length lent
  mid_long = ap length parted ∙ omega (arith, h.fits, front_long, length-append front (drop end lent), length-drop end lent)

  -- the front is kept, and what stands behind is as lent
  front_kept : take end mid ≡ front
  front_kept = ap (take end) parted ∙ take_at front (drop end lent) end front_long

  behind_kept : (n : ℕ) → drop (end + n) mid ≡ drop (end + n) lent
  behind_kept n =
      ap (drop (end + n)) parted
      ∙ ap (λ (i : ℕ). drop (i + n) (front ++ drop end lent)) (sym front_long)
      ∙ drop-append-add front (drop end lent) n
      ∙ drop-drop n end lent

  holds_more : (after : List ℕ) (more : List Event) → Holds mid (used + length es) after more → Holds lent used after (es ++ more)
  unfolding front
  holds_more after more m =
      let long = length-append es more in
      let last : (used + length es + length more) * width ≡ end + length more * width = omega arith in
      let all : end + length more * width ≡ (used + length (es ++ more)) * width = omega (arith, long) in
      record {
        fits = omega (arith, m.fits, mid_long, long);
        hold = m.hold ∙ rw (last, front_kept, behind_kept (length more * width), all) (simp (encode_append, append_assoc));
      }

-- ---- a list

-- the list counts these events behind `used` others, and they are there
record Stands (lent : List ℕ) (used : ℕ) (b : Batch) (es : List Event) : Type 0 where
  counts : b.filled.events ≡ used + length es
  holds : Holds lent used b.words es

stands_none : (lent : List ℕ) (used : ℕ) (f : Filled) (os : List Opening) → f.events ≡ used → used * width ≤ length lent → Stands lent used (batch f os lent) []
stands_none lent used f os e h = record { counts = rw (e, add-zero); holds = holds_none lent used h }

-- a record that can be taken, behind `used` events
module _ (page : List ℕ) (o : Opening) (used : ℕ) (words : List ℕ) (c : counting o ≡ true) (h : used * width ≤ length words) where
  abbrev rest : List ℕ
  rest = drop (used * width) words

  -- the record as it is filled, its events, and the words after its call
  abbrev filled : Opening
  filled = record_of page o used words

  abbrev own : List Event
  own = opening_events page o (length rest)

  abbrev after : List ℕ
  after = words_of page o used words

  wrote : Wrote rest (called page o rest) own
  unfolding filled_of
  wrote = call_writes page o rest (record_answered page o used words c).answer

  record_counts : filled.events ≡ length own
  unfolding filled_of
  record_counts = wrote.counts

  record_holds : Holds words used after own
  record_holds =
      let all : used * width + length own * width ≡ (used + length own) * width = omega arith in
      record {
        fits = omega (arith, length-drop (used * width) words, wrote.fits);
        hold = rw (wrote.hold, drop-drop (length own * width) (used * width) words, all);
      }

  record_leaves_room : (used + filled.events) * width ≤ length after
  record_leaves_room = omega (arith, record_counts, record_holds.fits, mid_long words used after own record_holds)

  -- and what the records behind it come to
  record_stands : (b : Batch) (more : List Event) → Stands after (used + filled.events) b more → Stands words used (behind filled b) (own ++ more)
  record_stands b more s =
      record {
        counts = omega (arith, s.counts, record_counts, length-append own more);
        holds = holds_more words used after own record_holds b.words more (rw record_counts at s.holds);
      }

list_stands : (page : List ℕ) (records used : ℕ) (os : List Opening) (words : List ℕ) → all_counting os ≡ true → used * width ≤ length words
    → Stands words used (fill_from page records used os words) (list_events page used os words)
unfolding fill_from list_events all_counting when◌then◌else◌
list_stands page records used [] words c h = stands_none words used _ [] refl h
list_stands page records used (o ∷ os) words c h =
    let b = both (counting o) (all_counting os) c in
    let f = record_of page o used words in
    let after = words_of page o used words in
    let room = record_leaves_room page o used words b.0 h in
    record_stands page o used words b.0 h _ _
    (case _ (eqb f.answer full) (λ e. rw e (stands_none after (used + f.events) _ os refl room))
    (λ e. rw e (list_stands page (records + 1) (used + f.events) os after b.1 room)))

pub the_buffer_is_the_lists_events : BufferIs
unfolding batch_of when◌then◌else◌
the_buffer_is_the_lists_events page os words c =
    let s = list_stands page 0 0 os words c (omega arith) in
    rw c (omega (arith, s.counts), omega (arith, s.holds.fits), rw zero-add at s.holds.hold)
