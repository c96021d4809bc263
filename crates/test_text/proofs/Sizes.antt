-- Laws of how many bytes an item and a file have.
use Prim.Native.Nat.{ℕ, ◌+◌, ◌*◌, ◌-◌, ◌/◌, ◌≤◌, ◌<◌}
use mathlib.Core.Path.{◌≡◌, refl, ap, sym, ◌∙◌}
use mathlib.Core.Bool.{Bool, true, false, cond, ◌&&◌, and-false}
use mathlib.Core.Logic.{by_cases}
use mathlib.Core.List.{List, [], ◌∷◌, ◌++◌}
use native.Mathlib.Decide.{dec_le}
use native.Mathlib.Nat.{zero-add}
use native.Mathlib.Omega.{arith}
use borrow.Author.Tests.{eq-eqb, ne_eqb, lt-ltb, le-ltb, le-leb, lt-leb, eqb-true, leb-true}
use lib.Dec.{eqb, leb}
use lib.ListN.{length, drop, length-append}
use Rattle.test_text.specs.Lines.{before, items, paired, hex_bytes, digits_of, decimal_from, times_of, copies, item_bytes, items_bytes, right, file_of}
use Rattle.test_text.specs.Steps.{item_length, IsNextItem}
use Rattle.test_text.proofs.Before.{items_next}
use Rattle.test_text.proofs.Digits.{and_both, bytes_length, copies_length}

-- tests that were passed
some_true : (b : Bool) (bytes : List ℕ) → 0 < length (cond b bytes []) → b ≡ true
some_true true bytes h = refl
some_true false bytes h = absurd (omega arith)

-- how often
module _ (item : List ℕ) where
  pub times_said : length (digits_of item) < length item → times_of item ≡ decimal_from 0 (drop (length (digits_of item) + 1) item)
  times_said h = rw (lt-ltb (length (digits_of item)) (length item) h)

  pub times_once : length item ≤ length (digits_of item) → times_of item ≡ 1
  times_once h = rw (le-ltb (length (digits_of item)) (length item) h)

-- the bytes of an item in its two forms
module _ (item digits : List ℕ) (times : ℕ) (e : digits ≡ digits_of item) (t : times ≡ times_of item) where
  pub item_copies : paired digits ≡ true → copies times (hex_bytes digits) ≡ item_bytes item
  unfolding item_bytes
  item_copies p = rw (t, ← e, p)

  pub item_size : paired digits ≡ true → length (item_bytes item) ≡ times * (length digits / 2)
  item_size p =
      ap length (sym (item_copies p)) ∙ copies_length times (hex_bytes digits) ∙ ap (λ (k : ℕ). times * k) (bytes_length digits)

  pub item_unpaired : paired digits ≡ false → length (item_bytes item) ≡ 0
  unfolding item_bytes
  item_unpaired p = rw (← e, p)

-- what `item_len` answers
module _ (item : List ℕ) (room : ℕ) where
  pub no_length : length (item_bytes item) ≡ 0 → 0 ≡ item_length item room
  no_length z = rw z (rw (le-leb 0 room (omega arith)))

  pub too_long : room < length (item_bytes item) → 0 ≡ item_length item room
  too_long h = rw (lt-leb (length (item_bytes item)) room h)

  pub has_length : length (item_bytes item) ≤ room → item_length item room ≡ length (item_bytes item)
  has_length h = rw (le-leb (length (item_bytes item)) room h)

-- what `item_len` answers, by the digits of an item and how often their bytes stand there
module _ (item digits : List ℕ) (times room : ℕ) (e : digits ≡ digits_of item) (t : times ≡ times_of item) where
  pub len_unpaired : paired digits ≡ false → 0 ≡ item_length item room
  len_unpaired p = no_length item room (item_unpaired item digits times e t p)

  pub len_none : paired digits ≡ true → times * (length digits / 2) ≡ 0 → 0 ≡ item_length item room
  len_none p z = no_length item room (item_size item digits times e t p ∙ z)

  pub len_over : paired digits ≡ true → room < times * (length digits / 2) → 0 ≡ item_length item room
  len_over p h = too_long item room (omega (arith, item_size item digits times e t p))

  pub len_fits : paired digits ≡ true → times * (length digits / 2) ≤ room → times * (length digits / 2) ≡ item_length item room
  len_fits p h = let size = item_size item digits times e t p in sym (has_length item room (omega arith) ∙ size)

pub ruleset item_laws = (len_unpaired, len_none, len_over, len_fits)

pub ruleset times_laws = (times_said, times_once)

-- the bytes of a list of items with so many before them; 0 where an item has none, or there is no room for it
abbrev pub sized : ℕ → ℕ → List (List ℕ) → ℕ
sized room len [] = len
sized room len (item ∷ items) =
    cond (leb 1 (length (item_bytes item)) && leb (len + length (item_bytes item)) room)
    (sized room (len + length (item_bytes item)) items) 0

-- an item, by what `item_len` answers
module _ (room len : ℕ) (item : List ℕ) (items : List (List ℕ)) (h : len ≤ room) where
  pub sized_stops : item_length item (room - len) ≡ 0 → sized room len (item ∷ items) ≡ 0
  sized_stops z =
      by_cases (dec_le (length (item_bytes item)) (room - len))
      (λ l.
      let none : length (item_bytes item) ≡ 0 = sym (has_length item (room - len) l) ∙ z in
      rw (lt-leb 1 (length (item_bytes item)) (omega arith)))
      (λ nl. rw (
        lt-leb (len + length (item_bytes item)) room (omega (arith, nl)),
        and-false (leb 1 (length (item_bytes item))),
      ))

  pub sized_goes_on : (size : ℕ) → size ≡ item_length item (room - len) → (size ≡ 0 → ⊥) →
      (sized room len (item ∷ items) ≡ sized room (len + size) items) × (len + size ≤ room)
  sized_goes_on size e ne =
      by_cases (dec_le (length (item_bytes item)) (room - len))
      (λ l.
      let all : size ≡ length (item_bytes item) = e ∙ has_length item (room - len) l in (
        rw (all, le-leb 1 (length (item_bytes item)) (omega (arith, ne)), le-leb (len + length (item_bytes item)) room (omega arith)),
        omega arith,
      ))
      (λ nl. let z : size ≡ 0 = e ∙ sym (too_long item (room - len) (omega (arith, nl))) in absurd (ne z))

-- so it is the length of the file
chosen : (b : Bool) (bytes : List ℕ) → length (cond b bytes []) ≡ cond b (length bytes) 0
chosen true bytes = refl
chosen false bytes = refl

pub sized_all : (room len : ℕ) (items : List (List ℕ)) → len ≤ room →
    sized room len items ≡ cond (right items && leb (len + length (items_bytes items)) room) (len + length (items_bytes items)) 0
sized_all room len [] h = let none : len + 0 ≡ len = omega arith in rw (none, le-leb len room h)
sized_all room len (item ∷ more) h =
    let size : ℕ = length (item_bytes item) in
    let rest : ℕ = length (items_bytes more) in
    let long : length (item_bytes item ++ items_bytes more) ≡ size + rest = length-append (item_bytes item) (items_bytes more) in
    let there : len + (size + rest) ≡ len + size + rest = omega arith in
    by_cases (dec_le 1 size)
    (λ some.
    by_cases (dec_le (len + size) room)
    (λ l. rw (le-leb 1 size some, le-leb (len + size) room l, long, there) (sized_all room (len + size) more l))
    (λ nl.
    rw (
      le-leb 1 size some,
      lt-leb (len + size) room (omega (arith, nl)),
      long,
      lt-leb (len + (size + rest)) room (omega (arith, nl)),
      and-false (right more),
    )))
    (λ none. rw (lt-leb 1 size (omega (arith, none))))

module _ (line : List ℕ) (room : ℕ) where
  pub no_file : (length (before 32 line) ≡ 1 → ⊥) → length (file_of line room) ≡ 0
  unfolding file_of
  no_file ne = rw (ne_eqb (length (before 32 line)) 1 ne)

  pub file_length : length (before 32 line) ≡ 1 → sized room 0 (items line) ≡ length (file_of line room)
  unfolding file_of
  file_length e =
      let bytes : List ℕ = items_bytes (items line) in
      let none = zero-add (length bytes) in
      rw (eq-eqb (length (before 32 line)) 1 e, chosen (right (items line) && leb (length bytes) room) bytes)
      (sized_all room 0 (items line) (omega arith) ∙ ap (λ (k : ℕ). cond (right (items line) && leb k room) k 0) none)

  -- where there are bytes, the line has the form, and there is room
  pub file_there : 0 < length (file_of line room) →
      (length (before 32 line) ≡ 1) × (right (items line) ≡ true) × (length (items_bytes (items line)) ≤ room) × (file_of line room ≡ items_bytes (items line))
  unfolding file_of
  file_there h =
      let fits = leb (length (items_bytes (items line))) room in
      let all = some_true (eqb (length (before 32 line)) 1 && (right (items line) && fits)) (items_bytes (items line)) h in
      let form = and_both (eqb (length (before 32 line)) 1) (right (items line) && fits) all in
      let rest = and_both (right (items line)) fits form.1 in (
        eqb-true (length (before 32 line)) 1 form.0,
        rest.0,
        leb-true (length (items_bytes (items line))) room rest.1,
        ap (λ (b : Bool). cond b (items_bytes (items line)) []) all,
      )

-- an item with bytes has pairs of digits
pub item_paired : (item : List ℕ) → 1 ≤ length (item_bytes item) → paired (digits_of item) ≡ true
unfolding item_bytes
item_paired item h = some_true (paired (digits_of item)) (copies (times_of item) (hex_bytes (digits_of item))) h

-- a turn of the loops over the items
module _ (text item more : List ℕ) (here : before 32 text ≡ []) (next : IsNextItem text item more) where
  pub turn_stops : (room len : ℕ) → len ≤ room → item_length item (room - len) ≡ 0 → sized room len (items text) ≡ 0
  turn_stops room len h z = rw (items_next text item more here next) (sized_stops room len item (items more) h z)

  pub turn_goes_on : (room len size : ℕ) → len ≤ room → size ≡ item_length item (room - len) → (size ≡ 0 → ⊥) →
      (sized room len (items text) ≡ sized room (len + size) (items more)) × (len + size ≤ room)
  turn_goes_on room len size h s ne =
      rw (items_next text item more here next) (sized_goes_on room len item (items more) h size s ne)

  pub turn_right : right (items text) ≡ true → (paired (digits_of item) ≡ true) × (right (items more) ≡ true)
  turn_right r =
      let both = and_both (leb 1 (length (item_bytes item))) (right (items more)) (ap right (sym (items_next text item more here next)) ∙ r) in
      (item_paired item (leb-true 1 (length (item_bytes item)) both.0), both.1)

  pub turn_bytes : items_bytes (items text) ≡ item_bytes item ++ items_bytes (items more)
  turn_bytes = ap items_bytes (items_next text item more here next)

pub ruleset size_laws = (no_file, file_length, turn_stops, turn_goes_on)
