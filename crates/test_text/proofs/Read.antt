-- Laws of the file of a line, and of the rule of `read_line`.
use Prim.Native.Nat.{ℕ, ◌+◌, ◌-◌, ◌≤◌, ◌<◌}
use mathlib.Core.Path.{◌≡◌, ap, sym, ◌∙◌}
use mathlib.Core.Logic.{by_cases}
use mathlib.Core.List.{List}
use native.Mathlib.Decide.{dec_lt}
use native.Mathlib.Nat.{add-zero}
use native.Mathlib.Omega.{arith}
use borrow.Author.Tests.{lt-ltb, le-ltb}
use lib.ListN.{take, length, take, drop, get_or, drop_of_length-le, length-append, length-drop}
use lib.Seq.{take_all}
use Rattle.std.proofs.lemmas.List.{nil_from_length}
use Rattle.test_text.specs.Lines.{before, items, items_bytes, file_of, line_at, line_rule, over}
use Rattle.test_text.proofs.Sizes.{file_there}

pub file_fits : (line : List ℕ) (room : ℕ) → length (file_of line room) ≤ room
file_fits line room =
    by_cases (dec_lt 0 (length (file_of line room)))
    (λ some. let there = file_there line room some in omega (arith, ap length there.3, there.2)) (λ none. omega (arith, none))

-- what `read_file` leaves behind
module _ (line room after : List ℕ) (len : ℕ) (e : len ≡ length (file_of line (length room))) where
  pub file_written : 0 < len → after ≡ over (items_bytes (items line)) room → after ≡ over (file_of line (length room)) room
  file_written h a = a ∙ ap (λ (bytes : List ℕ). over bytes room) (sym (file_there line (length room) (omega arith)).3)

  pub file_empty : len ≡ 0 → room ≡ over (file_of line (length room)) room
  file_empty z = ap (λ (bytes : List ℕ). over bytes room) (sym (nil_from_length (file_of line (length room)) (omega arith)))

  pub file_room : after ≡ over (file_of line (length room)) room → (len ≤ length after) × (length after ≡ length room)
  file_room a =
      let file : List ℕ = file_of line (length room) in
      let long : length after ≡ length file + (length room - length file) =
      ap length a ∙ length-append file (drop (length file) room) ∙ ap (λ (k : ℕ). length file + k) (length-drop (length file) room) in
      let fits = file_fits line (length room) in
      (omega arith, omega arith)

-- the line at a place of the text
module _ (text : List ℕ) (at room : ℕ) where
  pub line_past : length text ≤ at → record { letter = 0; next = at; len = 0 } ≡ line_rule text at room
  unfolding line_rule file_of
  line_past h = rw (drop_of_length-le text h, add-zero at, le-ltb at (length text) h)

  pub none_past : (bytes : List ℕ) → length text ≤ at → bytes ≡ over (file_of (line_at text at) room) bytes
  unfolding file_of
  none_past bytes h = rw (drop_of_length-le text h)

  module _ (line : List ℕ) (letter end len : ℕ) (here : line ≡ before 10 (take (length text - at) (drop at text)))
      (e : end ≡ at + length line) (first : letter ≡ get_or line 0 0)
      (file : len ≡ length (file_of line room)) where
    there : line ≡ line_at text at
    there = here ∙ ap (before 10) (take_all (length text - at) (drop at text) (omega (arith, length-drop at text)))

    pub line_fed : end < length text → record { letter = letter; next = end + 1; len = len } ≡ line_rule text at room
    unfolding line_rule
    line_fed h = rw (first, file, ← there, ← e, lt-ltb end (length text) h)

    pub line_last : length text ≤ end → record { letter = letter; next = end; len = len } ≡ line_rule text at room
    unfolding line_rule
    line_last h = rw (first, file, ← there, ← e, le-ltb end (length text) h)

-- what a line says, for `read_line`
pub ruleset line_laws = (line_past, none_past, line_fed, line_last)
