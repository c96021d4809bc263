-- Laws of the words: which row an arm of the table is, that no other number and detail has one, and that every text has room.
use Prim.Native.Nat.{ℕ, zero, suc, ◌+◌, ◌≤◌, ◌<◌}
use mathlib.Core.Path.{◌≡◌, refl, sym, ap, ◌∙◌}
use mathlib.Core.Bool.{Bool, true, false, cond, not, ◌&&◌, ◌||◌}
use mathlib.Core.List.{List, [], ◌∷◌, ◌++◌, append-nil, append_assoc}
use native.Mathlib.Omega.{arith}
use borrow.Author.Tests.{ne_eqb, leb-true, eqb-true}
use lib.Dec.{eqb, leb}
use lib.ListN.{length, take, get_or, length-append}
use Rattle.files.proofs.Checks.{both}
use Rattle.records.specs.Records.{among}
use Rattle.endings.specs.Endings.{ascii}
use Rattle.lines.specs.Line.{decimal}
use Rattle.lines.specs.Words.{Row, table, other_words, is_of, words_in, shown, filled}
use Rattle.lines.proofs.Decimal.{twenty}

-- the most bytes that a text can take with a 64-bit number in it
abbrev room : List ℕ → ℕ
room [] = 0
room (byte ∷ bytes) = cond (eqb byte 35) 20 1 + room bytes

abbrev roomy : List Row → Bool
roomy [] = leb (room (ascii other_words)) 128
roomy (r ∷ rows) = leb (room (ascii r.words)) 128 && roomy rows

shown_room : (n byte : ℕ) (b : Bool) → n < 18446744073709551616 → length (cond b (decimal n) (byte ∷ [])) ≤ cond b 20 1
shown_room n byte true h = twenty n h
shown_room n byte false h = omega arith

filled_room : (n : ℕ) (bytes : List ℕ) → n < 18446744073709551616 → length (filled n bytes) ≤ room bytes
filled_room n [] h = omega arith
filled_room n (byte ∷ bytes) h =
    omega (arith, length-append (shown n byte) (filled n bytes), shown_room n byte (eqb byte 35) h, filled_room n bytes h)

pub fits : (n : ℕ) (bytes : List ℕ) → n < 18446744073709551616 → leb (room bytes) 128 ≡ true → length (filled n bytes) ≤ 128
fits n bytes h e = omega (arith, filled_room n bytes h, leb-true (room bytes) 128 e)

words_room : (rows : List Row) (number detail : ℕ) → roomy rows ≡ true → leb (room (ascii (words_in rows number detail))) 128 ≡ true
words_room [] number detail h = h
words_room (r ∷ rows) number detail h =
    let p = both (leb (room (ascii r.words)) 128) (roomy rows) h in
    either (is_of number detail r) p.0 (words_room rows number detail p.1)
  where
    either : (b : Bool) → leb (room (ascii r.words)) 128 ≡ true → leb (room (ascii (words_in rows number detail))) 128 ≡ true →
        leb (room (ascii (cond b r.words (words_in rows number detail)))) 128 ≡ true
    either true x y = x
    either false x y = y

-- the words of the table have room, whatever number stands in them
pub words_fit : (n number detail : ℕ) → n < 18446744073709551616 → length (filled n (ascii (words_in table number detail))) ≤ 128
words_fit n number detail h = fits n (ascii (words_in table number detail)) h (words_room table number detail refl)

-- the words of an ending leave room for the failed steps
abbrev brief : Row → Bool
brief r = not (eqb r.number 0) || leb (room (ascii r.words)) 92

abbrev briefs : List Row → Bool
briefs [] = true
briefs (r ∷ rows) = brief r && briefs rows

ending_room : (rows : List Row) (detail : ℕ) → briefs rows ≡ true → leb (room (ascii (words_in rows 0 detail))) 92 ≡ true
ending_room [] detail h = refl
ending_room (r ∷ rows) detail h =
    let p = both (brief r) (briefs rows) h in
    by_row (eqb r.number 0) (eqb r.detail detail) p.0 (ending_room rows detail p.1)
  where
    by_row : (b d : Bool) → (not b || leb (room (ascii r.words)) 92) ≡ true → leb (room (ascii (words_in rows 0 detail))) 92 ≡ true →
        leb (room (ascii (cond (b && d) r.words (words_in rows 0 detail)))) 92 ≡ true
    by_row true true x y = x
    by_row true false x y = y
    by_row false d x y = y

-- the text of a gate with its number leaves room for the version
pub gate_fits : (n : ℕ) → n < 18446744073709551616 → length (filled n (ascii "gate #")) ≤ 25
gate_fits n h = omega (arith, filled_room n (ascii "gate #") h)

pub ending_fits : (n detail : ℕ) → n < 18446744073709551616 → length (filled n (ascii (words_in table 0 detail))) ≤ 92
ending_fits n detail h =
    let words = ascii (words_in table 0 detail) in
    omega (arith, filled_room n words h, leb-true (room words) 92 (ending_room table detail refl))

-- a text shown byte by byte: one more is shown, and there is room for it
pub filled_next : (n : ℕ) (text : List ℕ) (i : ℕ) → i < length text →
    filled n (take (suc i) text) ≡ filled n (take i text) ++ shown n (get_or text i 0)
filled_next n [] i h = absurd (omega arith)
filled_next n (byte ∷ bytes) zero h = append-nil (shown n byte)
filled_next n (byte ∷ bytes) (suc i) h =
    rw (filled_next n bytes i (omega arith)) (sym (append_assoc (shown n byte) (filled n (take i bytes)) (shown n (get_or bytes i 0))))

pub filled_within : (n : ℕ) (text : List ℕ) (i : ℕ) → i < length text →
    length (filled n (take i text)) + length (shown n (get_or text i 0)) ≤ length (filled n text)
filled_within n [] i h = absurd (omega arith)
filled_within n (byte ∷ bytes) zero h = omega (arith, length-append (shown n byte) (filled n bytes))
filled_within n (byte ∷ bytes) (suc i) h =
    omega (
      arith,
      length-append (shown n byte) (filled n bytes),
      length-append (shown n byte) (filled n (take i bytes)),
      filled_within n bytes i (omega arith),
    )

-- an arm of the table is the first row with its number and detail
pub arm : {number detail n d : ℕ} {words : List ℕ} → number ≡ n → detail ≡ d → words ≡ ascii (words_in table n d) →
    words ≡ ascii (words_in table number detail)
arm e f h = rw (e, f) h

-- a number is none of these, as the arms of a `match` say it one after another
abbrev Missed : ℕ → List ℕ → Type 0
Missed k [] = Unit {0}
Missed k (n ∷ ns) = Missed k ns × (k ≡ n → ⊥)

-- the details of a number's rows, and the numbers that have rows, the last one first
abbrev details : ℕ → List Row → List ℕ → List ℕ
details n [] seen = seen
details n (r ∷ rows) seen = details n rows (cond (eqb r.number n) (r.detail ∷ seen) seen)

abbrev numbers : List Row → List ℕ → List ℕ
numbers [] seen = seen
numbers (r ∷ rows) seen = numbers rows (cond (among seen r.number) seen (r.number ∷ seen))

missed_detail : (n k : ℕ) (rows : List Row) (seen : List ℕ) → Missed k (details n rows seen) → Missed k seen
missed_detail n k [] seen h = h
missed_detail n k (r ∷ rows) seen h =
    by_number (eqb r.number n) (missed_detail n k rows (cond (eqb r.number n) (r.detail ∷ seen) seen) h)
  where
    by_number : (b : Bool) → Missed k (cond b (r.detail ∷ seen) seen) → Missed k seen
    by_number true m = m.0
    by_number false m = m

no_detail : (n k : ℕ) (rows : List Row) (seen : List ℕ) → Missed k (details n rows seen) → words_in rows n k ≡ other_words
no_detail n k [] seen h = refl
no_detail n k (r ∷ rows) seen h =
    let now = cond (eqb r.number n) (r.detail ∷ seen) seen in
    by_number (eqb r.number n) (missed_detail n k rows now h) (no_detail n k rows now h)
  where
    by_number : (b : Bool) → Missed k (cond b (r.detail ∷ seen) seen) → words_in rows n k ≡ other_words →
        cond (b && eqb r.detail k) r.words (words_in rows n k) ≡ other_words
    by_number true m w = rw (ne_eqb r.detail k (λ (e : r.detail ≡ k). m.1 (sym e))) w
    by_number false m w = w

missed_among : (k : ℕ) (ns : List ℕ) (n : ℕ) → Missed k ns → among ns n ≡ true → n ≡ k → ⊥
missed_among k [] n m h e = let z : ◌≡◌ {A = ℕ} 0 1 = cc in absurd (omega arith)
missed_among k (x ∷ ns) n m h e = by_first (eqb x n) refl h (λ (t : among ns n ≡ true). missed_among k ns n m.0 t e)
  where
    by_first : (b : Bool) → eqb x n ≡ b → (b || among ns n) ≡ true → (among ns n ≡ true → ⊥) → ⊥
    by_first true f t rest = m.1 (sym e ∙ sym (eqb-true x n f))
    by_first false f t rest = rest t

missed_number : (k : ℕ) (rows : List Row) (seen : List ℕ) → Missed k (numbers rows seen) → Missed k seen
missed_number k [] seen h = h
missed_number k (r ∷ rows) seen h =
    by_seen (among seen r.number) (missed_number k rows (cond (among seen r.number) seen (r.number ∷ seen)) h)
  where
    by_seen : (b : Bool) → Missed k (cond b seen (r.number ∷ seen)) → Missed k seen
    by_seen true m = m
    by_seen false m = m.0

no_number : (k d : ℕ) (rows : List Row) (seen : List ℕ) → Missed k (numbers rows seen) → words_in rows k d ≡ other_words
no_number k d [] seen h = refl
no_number k d (r ∷ rows) seen h =
    let now = cond (among seen r.number) seen (r.number ∷ seen) in
    let m = missed_number k rows now h in
    rw (ne_eqb r.number k (by_seen (among seen r.number) refl m)) (no_number k d rows now h)
  where
    by_seen : (b : Bool) → among seen r.number ≡ b → Missed k (cond b seen (r.number ∷ seen)) → r.number ≡ k → ⊥
    by_seen true t m e = missed_among k seen r.number m t e
    by_seen false t m e = m.1 (sym e)

-- no row has this detail of its number, or this number
pub none_at : {number : ℕ} (n detail : ℕ) → number ≡ n → Missed detail (details n table []) →
    ascii other_words ≡ ascii (words_in table number detail)
none_at n detail e h = rw (e, no_detail n detail table [] h) refl

pub none_of : (number detail : ℕ) → Missed number (numbers table []) → ascii other_words ≡ ascii (words_in table number detail)
none_of number detail h = ap ascii (sym (no_number number detail table [] h))
