-- Laws of what stands before a byte, and of the items of a line.
use Prim.Native.Nat.{ℕ, suc, ◌+◌, ◌-◌, ◌≤◌, ◌<◌}
use mathlib.Core.Path.{◌≡◌, refl, ap, sym, ◌∙◌}
use mathlib.Core.Logic.{by_cases}
use mathlib.Core.List.{List, [], ◌∷◌}
use native.Mathlib.Decide.{ℕ_discrete, dec_lt}
use native.Mathlib.Numerals.{add-one}
use native.Mathlib.Omega.{arith}
use borrow.Author.Tests.{lt-ltb, le-ltb, eq-eqb, ne_eqb}
use lib.ListN.{length, take, drop, get_or, length-drop}
use lib.Seq.{drop-cons}
use Rattle.std.specs.List.{position_or_len, position}
use Rattle.std.specs.Prelude.{Some, None}
use lib.Seq.{take_all}
use lib.Dec.{eqb}
use Rattle.test_text.specs.Lines.{before, items}
use Rattle.test_text.specs.Steps.{IsNextItem}

-- what is left of a list that does not end here
pub drop_at : (s : List ℕ) (i : ℕ) → i < length s → drop i s ≡ get_or s i 0 ∷ drop (i + 1) s
drop_at s i h = rw (add-one, drop-cons s i 0)

module _ (b x : ℕ) (xs : List ℕ) where
  pub before_found : x ≡ b → before b (x ∷ xs) ≡ []
  before_found e = rw (eq-eqb x b e)

  pub before_other : (x ≡ b → ⊥) → before b (x ∷ xs) ≡ x ∷ before b xs
  before_other ne = rw (ne_eqb x b ne)

-- after it stands the byte, or nothing
pub before_after : (b : ℕ) (s : List ℕ) → before b (drop (length (before b s)) s) ≡ []
before_after b [] = refl
before_after b (x ∷ xs) =
    by_cases (ℕ_discrete x b) (λ e. rw (before_found b x xs e) (before_found b x xs e)) (λ ne. rw (before_other b x xs ne) (before_after b xs))

-- it ends at the first place where the byte stands
before_position : (b : ℕ) (s : List ℕ) → take (position_or_len (λ x. eqb x b) s) s ≡ before b s
before_position b [] = refl
before_position b (x ∷ xs) =
    by_cases (ℕ_discrete x b) (λ e. rw (before_found b x xs e, eq-eqb x b e))
    (λ ne.
    let n : ℕ = position_or_len (λ x. eqb x b) xs in
    let one : 1 + n ≡ suc n = omega arith in
    rw (before_other b x xs ne, ne_eqb x b ne)
    (ap (λ (k : ℕ). take k (x ∷ xs)) one ∙ ap (λ (l : List ℕ). x ∷ l) (before_position b xs)))

-- and `position` finds that place
module _ (b : ℕ) (s : List ℕ) where
  abbrev place : ℕ
  place = position_or_len (λ x. eqb x b) s

  pub before_some : {n : ℕ} → Some n ≡ position (λ x. eqb x b) s → (take n s ≡ before b s) × (n ≤ length s)
  before_some {n} e =
      by_cases (dec_lt place (length s))
      (λ h.
      let same : n ≡ place = cc (rw (lt-ltb place (length s) h) at e) in
      (ap (λ (k : ℕ). take k s) same ∙ before_position b s, omega arith))
      (λ h. cc (rw (le-ltb place (length s) (omega (arith, h))) at e))

  pub before_none : None ≡ position (λ x. eqb x b) s → s ≡ before b s
  before_none e =
      by_cases (dec_lt place (length s)) (λ h. cc (rw (lt-ltb place (length s) h) at e))
      (λ h. sym (take_all place s (omega (arith, h))) ∙ before_position b s)

pub ruleset before_laws = (before_some, before_none)

-- an item begins after each space and nowhere else
module _ (x : ℕ) (xs : List ℕ) where
  pub items_space : x ≡ 32 → items (x ∷ xs) ≡ before 32 xs ∷ items xs
  items_space e = rw (eq-eqb x 32 e)

  pub items_other : (x ≡ 32 → ⊥) → items (x ∷ xs) ≡ items xs
  items_other ne = rw (ne_eqb x 32 ne)

pub items_after : (s : List ℕ) → items (drop (length (before 32 s)) s) ≡ items s
items_after [] = refl
items_after (x ∷ xs) =
    by_cases (ℕ_discrete x 32) (λ e. rw (before_found 32 x xs e))
    (λ ne. rw (before_other 32 x xs ne) (rw (items_other x xs ne) (items_after xs)))

-- the item after the space at the start of a text, and the next space
module _ (text item more : List ℕ) (here : before 32 text ≡ []) (next : IsNextItem text item more) where
  pub items_next : items text ≡ item ∷ items more
  items_next =
      let later : items more ≡ items (drop 1 text) =
      ap items next.rest ∙ ap (λ (l : List ℕ). items (drop (length l) (drop 1 text))) next.here ∙ items_after (drop 1 text) in
      first text here next.some ∙ rw (later, next.here)
    where
      first : (s : List ℕ) → before 32 s ≡ [] → 0 < length s → items s ≡ before 32 (drop 1 s) ∷ items (drop 1 s)
      first [] e h = absurd (omega arith)
      first (x ∷ xs) e h =
          by_cases (ℕ_discrete x 32) (λ space. items_space x xs space)
          (λ ne. let z : ◌≡◌ {A = ℕ} 0 1 = omega (arith, ap length (sym (before_other 32 x xs ne) ∙ e)) in absurd (omega arith))

  pub space_next : before 32 more ≡ []
  space_next = rw (next.rest, next.here) (before_after 32 (drop 1 text))

  pub shorter : length more < length text
  shorter = omega (arith, next.some, ap length next.rest, length-drop (length item) (drop 1 text), length-drop 1 text)

pub ruleset turn_laws = (space_next, shorter)

-- the first space comes after one byte
pub items_first : (line : List ℕ) → length (before 32 line) ≡ 1 →
    (items (take (length line - 1) (drop 1 line)) ≡ items line) × (before 32 (take (length line - 1) (drop 1 line)) ≡ [])
items_first line h =
    let all : take (length line - 1) (drop 1 line) ≡ drop (length (before 32 line)) line =
    take_all (length line - 1) (drop 1 line) (omega (arith, length-drop 1 line)) ∙ ap (λ (k : ℕ). drop k line) (sym h) in
    rw all (items_after line, before_after 32 line)
