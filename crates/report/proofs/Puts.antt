-- Pieces of text put into a buffer: pieces put one after the other are put at once, no place lies past the buffer's end, and a text that
-- fits stands there whole.
use Prim.Native.Nat.{ℕ, suc, ◌+◌, ◌-◌, ◌≤◌, ◌<◌}
use native.Mathlib.Nat.{add-zero}
use native.Mathlib.Omega.{arith}
use mathlib.Core.Path.{◌≡◌, refl, sym, ap, ap₂, ◌∙◌}
use mathlib.Core.List.{List, [], ◌∷◌, ◌++◌}
use lib.Dec.{ltb}
use lib.ListN.{length, set, length-append}
use lib.Seq.{sets, length-sets, drop-drop}
use Rattle.std.proofs.lemmas.List.{append_assoc}
use Rattle.std.proofs.lemmas.List.Edits.{sets-eq}
use borrow.Rule.Slice.PartMut.{put_mid}
use borrow.Author.Tests.{ltb-false, le-ltb}
use Rattle.base.specs.If.{when◌then◌else◌}
use Rattle.base.proofs.Choice.{case, picks}
use Rattle.report.specs.Put.{Put, outcome, in_room, put_from, put_of, text_of}

-- ---- a place inside the buffer

pub room_of : (room at : ℕ) → at ≤ room → in_room room at ≡ at
room_of room at h = omega arith

pub in_room_lem : (room at : ℕ) → in_room room at ≤ room
in_room_lem room at = omega arith

-- ---- one piece after the other

from_append : (out : List ℕ) (at : ℕ) (ps qs : List (List ℕ)) → put_from out at (ps ++ qs) ≡ put_from (put_from out at ps).buffer (put_from out at ps).place qs
unfolding put_from when◌then◌else◌
from_append out at [] qs = refl
from_append out at (p ∷ ps) qs =
    case (put_from out at ((p ∷ ps) ++ qs) ≡ put_from (put_from out at (p ∷ ps)).buffer (put_from out at (p ∷ ps)).place qs) (ltb (length out - at) (length p))
    (λ y. rw y (from_append out at ps qs))
    (λ n. rw n (from_append (sets out at p) (at + length p) ps qs))

from_within : (out : List ℕ) (at : ℕ) (ps : List (List ℕ)) → at ≤ length out → (put_from out at ps).place ≤ length (put_from out at ps).buffer
unfolding put_from when◌then◌else◌
from_within out at [] h = h
from_within out at (p ∷ ps) h =
    case ((put_from out at (p ∷ ps)).place ≤ length (put_from out at (p ∷ ps)).buffer) (ltb (length out - at) (length p))
    (λ y. rw y (from_within out at ps h))
    (λ n. rw n (from_within (sets out at p) (at + length p) ps (omega (arith, length-sets out at p, ltb-false (length out - at) (length p) n))))

pub within_put : (out : List ℕ) (at : ℕ) (ps : List (List ℕ)) {b : List ℕ} {r : ℕ} → outcome r b ≡ put_of out at ps → r ≤ length b
unfolding put_of
within_put out at ps {b} {r} e =
    let place : r ≡ (put_of out at ps).place = ap (λ (p : Put). p.place) e in
    let buffer : b ≡ (put_of out at ps).buffer = ap (λ (p : Put). p.buffer) e in
    rw (place, buffer) (from_within out (in_room (length out) at) ps (in_room_lem (length out) at))

-- more pieces
pub then_put : (out : List ℕ) (at : ℕ) (ps qs : List (List ℕ)) {m : List ℕ} {p : ℕ} {z : Put} → outcome p m ≡ put_of out at ps → z ≡ put_of m p qs → z ≡ put_of out at (ps ++ qs)
unfolding put_of
then_put out at ps qs {m} {p} {z} e f =
    let place : p ≡ (put_of out at ps).place = ap (λ (q : Put). q.place) e in
    let buffer : m ≡ (put_of out at ps).buffer = ap (λ (q : Put). q.buffer) e in
    f
    ∙ ap (λ (k : ℕ). put_from m k qs) (room_of (length m) p (within_put out at ps e))
    ∙ ap₂ (λ (l : List ℕ) (k : ℕ). put_from l k qs) buffer place
    ∙ sym (from_append out (in_room (length out) at) ps qs)

-- ---- a text that fits stands there whole

sets_append : (a b out : List ℕ) (at : ℕ) → sets (sets out at a) (at + length a) b ≡ sets out at (a ++ b)
sets_append [] b out at = rw add-zero
sets_append (x ∷ a) b out at =
    let e : at + suc (length a) ≡ suc at + length a = omega arith in
    ap (λ (k : ℕ). sets (sets (set out at x) (suc at) a) k b) e ∙ sets_append a b (set out at x) (suc at)

from_whole : (out : List ℕ) (at : ℕ) (ps : List (List ℕ)) → at + length (text_of ps) ≤ length out → put_from out at ps ≡ outcome (at + length (text_of ps)) (sets out at (text_of ps))
unfolding put_from when◌then◌else◌
from_whole out at [] h = rw add-zero
from_whole out at (p ∷ ps) h =
    let l = length-append p (text_of ps) in
    let fits : length p ≤ length out - at = omega arith in
    let place : at + length p + length (text_of ps) ≡ at + length (p ++ text_of ps) = omega arith in
    rw (le-ltb (length out - at) (length p) fits)
    (from_whole (sets out at p) (at + length p) ps (omega (arith, length-sets out at p))
    ∙ ap₂ outcome place (sets_append p (text_of ps) out at))

pub whole_put : (out : List ℕ) (at : ℕ) (ps : List (List ℕ)) → at + length (text_of ps) ≤ length out → put_of out at ps ≡ outcome (at + length (text_of ps)) (sets out at (text_of ps))
unfolding put_of
whole_put out at ps h = ap (λ (k : ℕ). put_from out k ps) (room_of (length out) at (omega arith)) ∙ from_whole out at ps h

-- ---- one piece, or none

module _ (out : List ℕ) (at a : ℕ) (e : a ≡ in_room (length out) at) where
  pub nothing_put : outcome a out ≡ put_of out at []
  unfolding put_of put_from
  nothing_put = rw (← e)

  pub no_room : (bytes : List ℕ) → length out - a < length bytes → outcome a out ≡ put_of out at (bytes ∷ [])
  unfolding put_of put_from
  no_room bytes h = rw (← e) (search picks depth 12)

  pub all_put : (bytes b : List ℕ) → length bytes ≤ length out - a → b ≡ sets out a bytes → outcome (a + length bytes) b ≡ put_of out at (bytes ∷ [])
  unfolding put_of put_from
  all_put bytes b h s = rw (s, ← e) (search picks depth 12)

-- a part of the buffer that bytes were copied to
pub part_put : (out bytes copied : List ℕ) (a n : ℕ) → copied ≡ bytes → n ≡ length bytes → a + length bytes ≤ length out → put_mid a n out copied ≡ sets out a bytes
part_put out bytes copied a n e m h = rw (e, m, sets-eq bytes out a h, drop-drop (length bytes) a out, append_assoc)
