-- Laws of bytes that are put into a room, some after others.
use Prim.Native.Nat.{ℕ, ◌+◌, ◌-◌, ◌≤◌, ◌<◌}
use mathlib.Core.Path.{◌≡◌, refl, ap, sym, ◌∙◌}
use mathlib.Core.List.{List, [], ◌∷◌, ◌++◌, append_assoc, append-nil}
use native.Mathlib.Nat.{add-zero, zero-add}
use native.Mathlib.Numerals.{add-one}
use native.Mathlib.Omega.{arith}
use borrow.Rule.Slice.PartMut.{put_mid}
use lib.ListN.{drop_of_length-le, length, take, drop, set, length-set, length-append, length-take, length-drop, take-append-drop}
use lib.Seq.{take_all, take_at, drop-append-add, drop-drop, take-suc-set, drop-set-lt, length-take-le}
use Rattle.test_text.specs.Lines.{over}

-- these bytes in a room, from a place on
abbrev pub put : List ℕ → ℕ → List ℕ → List ℕ
put room at bytes = take at room ++ (bytes ++ drop (at + length bytes) room)

pub put_none : (room : List ℕ) (at : ℕ) → put room at [] ≡ room
put_none room at = ap (λ (k : ℕ). take at room ++ drop k room) (add-zero at) ∙ take-append-drop at room

pub put_first : (room bytes : List ℕ) → put room 0 bytes ≡ over bytes room
put_first room bytes = ap (λ (k : ℕ). bytes ++ drop k room) (zero-add (length bytes))

pub put_length : (room : List ℕ) (at : ℕ) (bytes : List ℕ) → at + length bytes ≤ length room → length (put room at bytes) ≡ length room
put_length room at bytes h = simp (length-append, length-take, length-drop) (omega arith)

-- a byte, and those after it
pub put_byte : (room : List ℕ) (at b : ℕ) (bytes : List ℕ) → at < length room → put (set room at b) (at + 1) bytes ≡ put room at (b ∷ bytes)
put_byte room at b bytes h =
    let front : take (at + 1) (set room at b) ≡ take at room ++ (b ∷ []) =
    ap (λ (k : ℕ). take k (set room at b)) (add-one at) ∙ take-suc-set room at b h in
    let rest : drop (at + 1 + length bytes) (set room at b) ≡ drop (at + 1 + length bytes) room =
    drop-set-lt (at + 1 + length bytes) room at b (omega arith) in
    let place : at + length (b ∷ bytes) ≡ at + 1 + length bytes = omega arith in
    rw (front, rest, place, append_assoc)

-- bytes, and those after them
pub put_more : (room : List ℕ) (at : ℕ) (first bytes : List ℕ) → at + length first ≤ length room →
    put (put room at first) (at + length first) bytes ≡ put room at (first ++ bytes)
put_more room at first bytes h =
    let head : List ℕ = take at room ++ first in
    let tail : List ℕ = drop (at + length first) room in
    let long : length head ≡ at + length first =
    length-append (take at room) first ∙ ap (λ (k : ℕ). k + length first) (length-take-le at room (omega arith)) in
    let whole : put room at first ≡ head ++ tail = sym (append_assoc (take at room) first tail) in
    let place : at + length first + length bytes ≡ at + length (first ++ bytes) = omega (arith, length-append first bytes) in
    let beyond : drop (at + length first + length bytes) (head ++ tail) ≡ drop (at + length (first ++ bytes)) room =
    ap (λ (k : ℕ). drop (k + length bytes) (head ++ tail)) (sym long) ∙ drop-append-add head tail (length bytes) ∙
    drop-drop (length bytes) (at + length first) room ∙
    ap (λ (k : ℕ). drop k room) place in
    rw (whole) (rw (take_at head tail (at + length first) long, beyond) (simp append_assoc))

-- Some of the whole was put there, and this rest is left: put where it belongs, it makes the whole.
pub record Left (room₀ whole room : List ℕ) (at : ℕ) (rest : List ℕ) : Type 0 where
  pub same : length room ≡ length room₀
  pub place : at + length rest ≡ length whole
  pub bytes : put room at rest ≡ over whole room₀

pub left_all : (room whole : List ℕ) → Left room whole room 0 whole
left_all room whole = record { same = refl; place = omega arith; bytes = put_first room whole }

module _ (room₀ whole room : List ℕ) (at : ℕ) (rest : List ℕ) (h : Left room₀ whole room at rest) where
  pub left_byte : (b : ℕ) (later : List ℕ) → rest ≡ b ∷ later → at < length room → Left room₀ whole (set room at b) (at + 1) later
  left_byte b later e l = record {
    same = length-set room at b ∙ h.same;
    place = omega (arith, h.place, ap length e);
    bytes = put_byte room at b later l ∙ ap (put room at) (sym e) ∙ h.bytes;
  }

  pub left_more : (first later : List ℕ) → rest ≡ first ++ later → at + length first ≤ length room →
      Left room₀ whole (put room at first) (at + length first) later
  left_more first later e l = record {
    same = put_length room at first l ∙ h.same;
    place = omega (arith, h.place, ap length e, length-append first later);
    bytes = put_more room at first later l ∙ ap (put room at) (sym e) ∙ h.bytes;
  }

  -- the bytes that come first are lent the room from there on: they fit, and what they leave behind is in its place
  part : take (length room - at) (drop at room) ≡ drop at room
  part = take_all (length room - at) (drop at room) (omega (arith, length-drop at room))

  pub left_room : (first later : List ℕ) → rest ≡ first ++ later → length whole ≤ length room₀ →
      length first ≤ length (take (length room - at) (drop at room))
  left_room first later e l =
      omega (arith, ap length part, length-drop at room, h.place, h.same, ap length e, length-append first later)

  pub left_part : (first later written : List ℕ) (n : ℕ) → rest ≡ first ++ later → length whole ≤ length room₀ →
      written ≡ over first (take (length room - at) (drop at room)) → n ≡ length first →
      Left room₀ whole (put_mid at (length room - at) room written) (at + n) later
  left_part first later written n e l w m =
      let there : at + length first ≤ length room = omega (arith, h.place, h.same, ap length e, length-append first later) in
      let none : drop (length room - at) (drop at room) ≡ [] =
      drop_of_length-le (drop at room) {i = length room - at} (omega (arith, length-drop at room)) in
      let same : written ≡ first ++ drop (at + length first) room = w ∙ rw (part, drop-drop) in
      let all : put_mid at (length room - at) room written ≡ put room at first =
      rw (same, none) (simp append-nil) in
      rw (all, m) (left_more first later e there)

  pub left_none : rest ≡ [] → (at ≡ length whole) × (room ≡ over whole room₀)
  left_none e = (omega (arith, h.place, ap length e), sym (put_none room at) ∙ ap (put room at) (sym e) ∙ h.bytes)
