-- What a decision does to a tokenizer: its next state, its place, and each register by itself.
use Rattle.std.specs.Prelude.{ℕ, ◌+◌, ◌-◌, Bool, ◌&&◌, ltb, eqb}
use Rattle.base.specs.If.{when◌then◌else◌}
use Rattle.base.specs.Page.{page_limit}
use Rattle.base.specs.declared.Effect.{Effect}
use Rattle.base.specs.declared.Effect.TheVariants.{Keep, Deeper, Shallower, Open, PrefixBegins, PrefixGoesOn, PrefixEnds, PrefixInTab, Quote, Return, Save, Restore, Last, Fault, Refuse}
use Rattle.base.specs.declared.Move.{Move}
use Rattle.tokenizer.specs.declared.Regs.{Regs}
use Rattle.tokenizer.specs.declared.Tokenizer.{Tokenizer}
use Rattle.tokenizer.specs.Registers.{with_back, with_depth, with_prefix, with_quote, with_last, with_site, with_note, with_saved, with_body, with_joint, with_fault}

-- one more, up to a limit
abbrev pub one_more : ℕ → ℕ → ℕ
one_more n limit = when ltb n limit then n + 1 else n

-- the place after the byte, where it is eaten and there is one
abbrev pub next_place : ℕ → Bool → ℕ → ℕ
next_place at eat length = when eat && ltb at length then at + 1 else at

-- the place of the next step: a look-ahead goes back to where it began
abbrev pub place_after : Effect → ℕ → ℕ → ℕ
place_after Keep next saved = next
place_after Deeper next saved = next
place_after Shallower next saved = next
place_after Open next saved = next
place_after PrefixBegins next saved = next
place_after PrefixGoesOn next saved = next
place_after PrefixEnds next saved = next
place_after (PrefixInTab tab) next saved = next
place_after (Quote b) next saved = next
place_after (Return name) next saved = next
place_after Save next saved = next
place_after Restore next saved = saved
place_after (Last n) next saved = next
place_after (Fault n place) next saved = next
place_after (Refuse site note) next saved = next

-- the first line prefix of a body stays the first; 0 for none
abbrev pub first_joint : ℕ → ℕ → ℕ
first_joint joint at = when eqb joint 0 then at else joint

-- the most braces that a page can have open
abbrev pub most_braces : ℕ
most_braces = page_limit

-- "After a line ending, at most two columns of tabs or spaces are a line prefix"
abbrev pub longest_prefix : ℕ
longest_prefix = 2

-- the registers after a step from the place `at`, when the next byte stands at `next`
abbrev pub changed : Effect → ℕ → ℕ → Regs → Regs
changed Keep at next r = r
changed Deeper at next r = with_depth (one_more r.depth most_braces) r
changed Shallower at next r = with_depth (r.depth - 1) r
changed Open at next r = with_body next (with_joint 0 r)
changed PrefixBegins at next r = with_joint (first_joint r.joint at) r
changed PrefixGoesOn at next r = with_prefix (one_more r.prefix longest_prefix) r
changed PrefixEnds at next r = with_prefix 0 r
changed (PrefixInTab tab) at next r = with_prefix longest_prefix r
changed (Quote b) at next r = with_quote b r
changed (Return name) at next r = with_back name r
changed Save at next r = with_saved at r
changed Restore at next r = r
changed (Last n) at next r = with_last n r
changed (Fault n place) at next r = with_last n (with_fault place r)
changed (Refuse site note) at next r = with_site site (with_note note r)

-- the tokenizer after a decision
unfoldable pub moved : Tokenizer → Move → Tokenizer
moved t m =
    let next = next_place t.at m.eat t.job.length in
    record {
      job = t.job;
      state = m.next;
      at = place_after m.effect next t.regs.saved;
      regs = changed m.effect t.at next t.regs;
      heard = t.heard;
    }
