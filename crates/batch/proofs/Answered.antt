-- A record's turn: what the calls of `answer_one` give comes to the definition. The single call is lent all words behind those of the
-- earlier events, and nothing stands behind them.
use Prim.Native.Nat.{ℕ, ◌+◌, ◌-◌, ◌*◌, ◌≤◌}
use native.Mathlib.Omega.{arith}
use mathlib.Core.Path.{◌≡◌, ap, ◌∙◌}
use mathlib.Core.List.{List, ◌++◌, append-nil}
use lib.ListN.{length, take, drop, length-drop, drop_of_length-le}
use lib.Seq.{take_all}
use Rattle.std.specs.Prelude.{Result}
use Rattle.events.specs.Words.{width}
use Rattle.page.specs.declared.Fault.{Fault}
use Rattle.page.specs.declared.line.Line.{Line}
use Rattle.scan.specs.declared.Ran.{Ran}
use Rattle.scan.specs.Answer.{said_by}
use Rattle.scan.specs.Call.{Left, left_by}
use Rattle.batch.specs.declared.Opening.{Opening}
use Rattle.batch.specs.declared.turns.Run.{Run}
use Rattle.batch.specs.Record.{filled_of}
use Rattle.batch.specs.Batch.{called, record_of, words_of}
use Rattle.batch.specs.Inner.{check_for, Sound}
use Rattle.batch.proofs.Rooms.{events_fit, words_long}

module _ (page words : List ℕ) (o : Opening) (r : Run) (sound : Sound page words r) where
  abbrev front : ℕ
  front = r.used * width

  -- what is lent, as the code cuts it
  abbrev lent : List ℕ
  lent = take (length words - front) (drop front words)

  all_lent : lent ≡ drop front words
  all_lent = let n = length-drop front words in take_all (length words - front) (drop front words) (omega arith)

  module _ (ran : Ran) (zs : List ℕ) (f : Opening) (l : left_by ran zs ≡ called page o lent) (e : f ≡ filled_of o r.used (said_by ran.answer)) where
    ran_is : left_by ran zs ≡ called page o (drop front words)
    ran_is = l ∙ ap (called page o) all_lent

    pub record_is : f ≡ record_of page o r.used words
    record_is = e ∙ ap (λ (x : Left). filled_of o r.used x.answer) ran_is

    -- the words, as the call leaves them
    abbrev after : List ℕ
    after = take front words ++ (zs ++ drop (length words - front) (drop front words))

    pub words_are : after ≡ words_of page o r.used words
    words_are =
        let n = length-drop front words in
        rw (drop_of_length-le (drop front words) {i = length words - front} (omega arith), append-nil zs) (ap (λ (x : Left). take front words ++ x.words) ran_is)

    pub count_fits : (r.used + f.events) * width ≤ length words
    count_fits = omega (arith, ap (λ (x : Opening). x.events) record_is, events_fit page words o r.used sound.room)

    pub sound_after : (from : ℕ) (checked : Result Line Fault) → checked ≡ check_for page from → from ≤ length page
        → Sound page after (record { used = r.used + f.events; from = from; checked = checked })
    sound_after from checked known in_page =
        record { known = known; from = in_page; room = omega (arith, count_fits, ap length words_are, words_long page words o r.used sound.room) }
