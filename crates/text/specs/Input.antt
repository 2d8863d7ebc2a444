-- The next line of what is read of an input and not used up: the bytes of a buffer from one place up to another.
use Rattle.std.specs.Prelude.{ℕ, ◌+◌, ◌-◌, ◌≤◌, ◌≡◌, Bool, true, false, List, min, eqb, ltb, length, take}
use Rattle.base.specs.Byte.{line_feed}
use Rattle.base.specs.If.{when◌then◌else◌}
use Rattle.text.specs.declared.input.Input.{Input}
use Rattle.text.specs.declared.input.Line.{Line}
use Rattle.text.specs.declared.input.Line.TheVariants.{Whole, TooLong, Skipped, More, Ended}
use Rattle.text.specs.declared.input.Taken.{Taken}
use Rattle.text.specs.Find.{find_from}
use Rattle.text.specs.Part.{part}

abbrev pub least_of : ℕ → ℕ → ℕ
least_of a b = min a b

-- the turns that are left after one more
unfoldable pub turns_left : ℕ → Bool → ℕ
turns_left left going =
    when eqb left 0 then 0
    else when going then left - 1
    else 0

-- no bytes are left over
abbrev pub front_input : Bool → Input
front_input skips = record { at = 0; end = 0; skips = skips; ended = false }

abbrev pub cut_of : Line → ℕ → ℕ → Input → Taken
cut_of line from to input = record { line = line; from = from; to = to; input = input }

-- a line that ends in a line feed
unfoldable pub line_of : ℕ → ℕ → ℕ → Bool → Bool → Taken
line_of at mark end skips ended =
    when skips then cut_of Skipped at mark (record { at = mark + 1; end = end; skips = false; ended = ended })
    else cut_of Whole at mark (record { at = mark + 1; end = end; skips = false; ended = ended })

-- what is left when the input has ended
unfoldable pub last_of : ℕ → ℕ → Bool → Taken
last_of at end skips =
    when skips then cut_of Ended at end (record { at = end; end = end; skips = false; ended = true })
    else when eqb at end then cut_of Ended at end (record { at = end; end = end; skips = false; ended = true })
    else cut_of Whole at end (record { at = end; end = end; skips = false; ended = true })

-- no line feed stands in the unused bytes
unfoldable pub rest_of : ℕ → ℕ → ℕ → Bool → Bool → Taken
rest_of at end room skips ended =
    when ended then last_of at end skips
    else when skips then cut_of More at end (front_input true)
    else when eqb (end - at) room then cut_of TooLong at end (front_input true)
    else cut_of More at end (record { at = at; end = end; skips = skips; ended = ended })

abbrev pub taken_at : List ℕ → ℕ → ℕ → Bool → Bool → Taken
taken_at buffer at end skips ended =
    when ltb (find_from (part buffer 0 end) at line_feed) end then line_of at (find_from (part buffer 0 end) at line_feed) end skips ended
    else rest_of at end (length buffer) skips ended

-- places past the buffer's end count as its end
abbrev pub end_in : ℕ → Input → ℕ
end_in room i = least_of i.end room

abbrev pub at_in : ℕ → Input → ℕ
at_in room i = least_of i.at (end_in room i)

abbrev pub taken_of : List ℕ → Input → Taken
taken_of buffer i = taken_at buffer (at_in (length buffer) i) (end_in (length buffer) i) i.skips i.ended

-- the bytes that have been read and not been used
abbrev pub unused_in : List ℕ → Input → List ℕ
unused_in buffer i = part buffer (at_in (length buffer) i) (end_in (length buffer) i)

abbrev pub unused_count : ℕ → Input → ℕ
unused_count room i = end_in room i - at_in room i

-- the input to go on with after a read that failed: it has ended behind the unused bytes, which stand at the buffer's front
abbrev pub ended_input : ℕ → Input → Input
ended_input room i = record { at = 0; end = unused_count room i; skips = i.skips; ended = true }

-- a buffer was filled: the unused bytes stand at its front, all of them and as they were; what is read comes behind them, and the input
-- has ended if that is nothing. Which bytes are read is not said
pub record Filled (buffer : List ℕ) (i r : Input) (filled : List ℕ) : Type 0 where
  pub front : r.at ≡ 0
  pub unused : take (unused_count (length buffer) i) filled ≡ unused_in buffer i
  pub long : length filled ≡ length buffer
  pub kept : unused_count (length buffer) i ≤ r.end
  pub within : r.end ≤ length buffer
  pub skipping : r.skips ≡ i.skips
  pub over : r.ended ≡ eqb (r.end - unused_count (length buffer) i) 0
