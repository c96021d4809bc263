-- Laws of digits: of one, of pairs of them, of a decimal number.
use Prim.Native.Nat.{ℕ, zero, suc, ◌+◌, ◌*◌, ◌-◌, ◌/◌, ◌≤◌, ◌<◌}
use mathlib.Core.Path.{◌≡◌, refl, ap, sym, ◌∙◌}
use mathlib.Core.Bool.{Bool, true, false, ◌&&◌}
use mathlib.Core.List.{List, [], ◌∷◌, ◌++◌}
use native.Mathlib.Nat.{suc-mul, zero-mul}
use native.Mathlib.Omega.{arith}
use borrow.Author.Tests.{ltb-true, lt-ltb, le-ltb, le-leb, lt-leb}
use Rattle.std.specs.Prelude.{Option, Some, None, IfSome, unwrap_or}
use lib.Dec.{eqb, ltb}
use lib.Seq.{drop-drop}
use Rattle.std.proofs.lemmas.List.{get_or-drop}
use lib.ListN.{length, drop, get_or, drop_of_length-le, length-append, length-drop}
use Rattle.test_text.specs.Lines.{hex_digit, hex_byte, paired, hex_bytes, decimal_from, copies}
use Rattle.test_text.proofs.Before.{drop_at}

pub and_both : (a b : Bool) → (a && b) ≡ true → (a ≡ true) × (b ≡ true)
and_both true b e = (refl, e)
and_both false b e = cc e

module _ (b : ℕ) where
  pub digit_below : b < 48 → 16 ≡ hex_digit b
  unfolding hex_digit
  digit_below h = rw (lt-leb 48 b h) (rw (lt-leb 97 b (omega arith)))

  pub digit_decimal : 48 ≤ b → b ≤ 57 → b - 48 ≡ hex_digit b
  unfolding hex_digit
  digit_decimal h l = rw (le-leb 48 b h, le-leb b 57 l)

  pub digit_between : 57 < b → b < 97 → 16 ≡ hex_digit b
  unfolding hex_digit
  digit_between h l = rw (le-leb 48 b (omega arith), lt-leb b 57 h, lt-leb 97 b l)

  pub digit_letter : 97 ≤ b → b ≤ 102 → b - 97 + 10 ≡ hex_digit b
  unfolding hex_digit
  digit_letter h l = rw (le-leb 48 b (omega arith), lt-leb b 57 (omega arith), le-leb 97 b h, le-leb b 102 l) (omega arith)

  pub digit_above : 102 < b → 16 ≡ hex_digit b
  unfolding hex_digit
  digit_above h = rw (le-leb 48 b (omega arith), lt-leb b 57 (omega arith), le-leb 97 b (omega arith), lt-leb b 102 h)

module _ (high low : ℕ) where
  pub byte_both : hex_digit high ≤ 15 → hex_digit low ≤ 15 → hex_byte high low ≡ 16 * hex_digit high + hex_digit low
  unfolding hex_byte
  byte_both h l = rw (lt-ltb (hex_digit high) 16 (omega arith), lt-ltb (hex_digit low) 16 (omega arith))

  pub byte_high : 16 ≡ hex_digit high → hex_byte high low ≡ 256
  unfolding hex_byte
  byte_high h = rw (le-ltb (hex_digit high) 16 (omega arith))

  pub byte_low : hex_digit high ≤ 15 → 16 ≡ hex_digit low → hex_byte high low ≡ 256
  unfolding hex_byte
  byte_low h l = rw (lt-ltb (hex_digit high) 16 (omega arith), le-ltb (hex_digit low) 16 (omega arith))

-- two digits that make a byte, each as it was read
pub byte_of : (high low : ℕ) (a b : Option ℕ) → unwrap_or a 16 ≡ hex_digit high → unwrap_or b 16 ≡ hex_digit low →
    IfSome a (λ (d : ℕ). d ≤ 15) → IfSome b (λ (d : ℕ). d ≤ 15) → hex_byte high low < 256 → 16 * unwrap_or a 0 + unwrap_or b 0 ≡ hex_byte high low
byte_of high low None b e f u v h = absurd (omega (arith, byte_high high low e))
byte_of high low (Some x) None e f u v h = absurd (omega (arith, byte_low high low (omega (arith, e)) f))
byte_of high low (Some x) (Some y) e f u v h =
    let both = byte_both high low (omega (arith, e)) (omega (arith, f)) in rw (e, f) (sym both)

-- pairs at the start of a text
pub paired_start : (s : List ℕ) → 2 ≤ length s → paired s ≡ (ltb (hex_byte (get_or s 0 0) (get_or s 1 0)) 256 && paired (drop 2 s))
paired_start [] h = absurd (omega arith)
paired_start (x ∷ []) h = absurd (omega arith)
paired_start (x ∷ (y ∷ xs)) h = refl

pub bytes_start : (s : List ℕ) → 2 ≤ length s → hex_bytes s ≡ hex_byte (get_or s 0 0) (get_or s 1 0) ∷ hex_bytes (drop 2 s)
bytes_start [] h = absurd (omega arith)
bytes_start (x ∷ []) h = absurd (omega arith)
bytes_start (x ∷ (y ∷ xs)) h = refl

pub paired_end : (s : List ℕ) → length s < 2 → paired s ≡ eqb (length s) 0
paired_end [] h = refl
paired_end (x ∷ []) h = refl
paired_end (x ∷ (y ∷ xs)) h = absurd (omega arith)

-- pairs at a place
module _ (s : List ℕ) (i : ℕ) (h : i < length s / 2) where
  two : 2 ≤ length (drop (2 * i) s)
  two = omega (arith, h, length-drop (2 * i) s)

  second : get_or (drop (2 * i) s) 1 0 ≡ get_or s (2 * i + 1) 0
  second = get_or-drop (2 * i) s 1 0

  first : get_or (drop (2 * i) s) 0 0 ≡ get_or s (2 * i) 0
  first = let none : 2 * i + 0 ≡ 2 * i = omega arith in get_or-drop (2 * i) s 0 0 ∙ ap (λ (k : ℕ). get_or s k 0) none

  rest : drop 2 (drop (2 * i) s) ≡ drop (2 * (i + 1)) s
  rest = let more : 2 * i + 2 ≡ 2 * (i + 1) = omega arith in drop-drop 2 (2 * i) s ∙ ap (λ (k : ℕ). drop k s) more

  pub bytes_at : hex_bytes (drop (2 * i) s) ≡ hex_byte (get_or s (2 * i) 0) (get_or s (2 * i + 1) 0) ∷ hex_bytes (drop (2 * (i + 1)) s)
  bytes_at = bytes_start (drop (2 * i) s) two ∙ rw (first, second, rest)

  pub paired_at : paired (drop (2 * i) s) ≡ true →
      (hex_byte (get_or s (2 * i) 0) (get_or s (2 * i + 1) 0) < 256) × (paired (drop (2 * (i + 1)) s) ≡ true)
  paired_at p =
      let both = and_both (ltb (hex_byte (get_or (drop (2 * i) s) 0 0) (get_or (drop (2 * i) s) 1 0)) 256) (paired (drop 2 (drop (2 * i) s)))
      (sym (paired_start (drop (2 * i) s) two) ∙ p) in
      (rw (← first, ← second) (ltb-true (hex_byte (get_or (drop (2 * i) s) 0 0) (get_or (drop (2 * i) s) 1 0)) 256 both.0), ap paired (sym rest) ∙ both.1)

-- and after the last
pub bytes_none : (s : List ℕ) (i : ℕ) → length s / 2 ≤ i → hex_bytes (drop (2 * i) s) ≡ []
bytes_none s i h = short (drop (2 * i) s) (omega (arith, length-drop (2 * i) s))
  where
    short : (s : List ℕ) → length s < 2 → hex_bytes s ≡ []
    short [] h = refl
    short (x ∷ []) h = refl
    short (x ∷ (y ∷ xs)) h = absurd (omega arith)

-- the byte that is there
pub byte_known : (r : Option ℕ) (x : ℕ) → unwrap_or r 256 ≡ x → x < 256 → r ≡ Some x
byte_known None x e h = absurd (omega arith)
byte_known (Some y) x e h = ap (λ (n : ℕ). Some n) e

pub bytes_length : (s : List ℕ) → length (hex_bytes s) ≡ length s / 2
bytes_length [] = refl
bytes_length (x ∷ []) = refl
bytes_length (x ∷ (y ∷ xs)) = omega (arith, bytes_length xs)

pub copies_length : (n : ℕ) (bytes : List ℕ) → length (copies n bytes) ≡ n * length bytes
copies_length zero bytes = omega (arith, zero-mul (length bytes))
copies_length (suc n) bytes = omega (arith, length-append bytes (copies n bytes), copies_length n bytes, suc-mul n (length bytes))

pub copies_again : (n : ℕ) (bytes : List ℕ) → 0 < n → copies n bytes ≡ bytes ++ copies (n - 1) bytes
copies_again zero bytes h = absurd (omega arith)
copies_again (suc n) bytes h = let one : n ≡ suc n - 1 = omega arith in ap (λ (k : ℕ). bytes ++ copies k bytes) one

-- copies that are made one after another
module _ (bytes : List ℕ) (n i : ℕ) where
  pub copies_next : i < n → copies (n - i) bytes ≡ bytes ++ copies (n - (i + 1)) bytes
  copies_next h = let one : n - i - 1 ≡ n - (i + 1) = omega arith in
      copies_again (n - i) bytes (omega arith) ∙ ap (λ (k : ℕ). bytes ++ copies k bytes) one

  pub copies_end : n ≤ i → copies (n - i) bytes ≡ []
  copies_end h = let none : n - i ≡ 0 = omega arith in ap (λ (k : ℕ). copies k bytes) none

-- a decimal number goes on at a place
module _ (n digit : ℕ) (s : List ℕ) (at : ℕ) (h : at < length s) (e : digit ≡ hex_digit (get_or s at 0)) where
  pub decimal_again : digit ≤ 9 → 10 * n + digit ≤ 65535 → decimal_from n (drop at s) ≡ decimal_from (10 * n + digit) (drop (at + 1) s)
  decimal_again l m =
      rw (drop_at s at h, ← e) (rw (lt-ltb digit 10 (omega arith), le-leb (10 * n + digit) 65535 m))

  pub decimal_other : 9 < digit → decimal_from n (drop at s) ≡ 0
  decimal_other l = rw (drop_at s at h, ← e) (rw (le-ltb digit 10 l))

  pub decimal_over : digit ≤ 9 → 65535 < 10 * n + digit → decimal_from n (drop at s) ≡ 0
  decimal_over l m = rw (drop_at s at h, ← e) (rw (lt-ltb digit 10 (omega arith), lt-leb (10 * n + digit) 65535 m))

pub decimal_ends : (n : ℕ) (s : List ℕ) (at : ℕ) → length s ≤ at → decimal_from n (drop at s) ≡ n
decimal_ends n s at h = rw (drop_of_length-le s h)

-- the laws of a digit, of pairs of digits and of a decimal number
pub ruleset digit_laws = (digit_below, digit_decimal, digit_between, digit_letter, digit_above)

pub ruleset byte_laws = (byte_both, byte_high, byte_low)

pub ruleset start_laws = (paired_start, paired_end)

pub ruleset decimal_laws = (decimal_again, decimal_other, decimal_over, decimal_ends)
