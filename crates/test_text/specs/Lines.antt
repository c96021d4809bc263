-- What a line of a stored list describes: docs/COMPARISON.md, "The stored lists".
use Rattle.std.specs.Prelude.{ℕ, zero, suc, ◌+◌, ◌*◌, ◌-◌, Bool, true, false, cond, ◌&&◌, List, [], ◌∷◌, ◌++◌, eqb, ltb, leb, length, drop, get_or, ◌≤◌}
use Rattle.test_text.specs.declared.Described.{Described}

-- what stands before the first such byte; all of it where there is none
abbrev pub before : ℕ → List ℕ → List ℕ
before b [] = []
before b (x ∷ xs) = cond (eqb x b) [] (x ∷ before b xs)

-- "A file is a line": the one that begins at a place, without its line feed
abbrev pub line_at : List ℕ → ℕ → List ℕ
line_at text at = before 10 (drop at text)

-- after the line feed, or at the end of the text, the next one begins
abbrev pub next_line : ℕ → ℕ → ℕ
next_line size end = cond (ltb end size) (end + 1) end

-- "then its items, each after one space"
abbrev pub items : List ℕ → List (List ℕ)
items [] = []
items (x ∷ xs) = cond (eqb x 32) (before 32 xs ∷ items xs) (items xs)

-- the value of a hex digit (0 to 9, a to f), 16 where it is none
unfoldable pub hex_digit : ℕ → ℕ
hex_digit b = cond (leb 48 b && leb b 57) (b - 48) (cond (leb 97 b && leb b 102) (b - 87) 16)

-- the byte of two hex digits, 256 where one of them is none
unfoldable pub hex_byte : ℕ → ℕ → ℕ
hex_byte high low = cond (ltb (hex_digit high) 16 && ltb (hex_digit low) 16) (16 * hex_digit high + hex_digit low) 256

-- "an even number of hex digits"
abbrev pub paired : List ℕ → Bool
paired [] = true
paired (x ∷ []) = false
paired (x ∷ (y ∷ xs)) = ltb (hex_byte x y) 256 && paired xs

-- the bytes that such digits say
abbrev pub hex_bytes : List ℕ → List ℕ
hex_bytes [] = []
hex_bytes (x ∷ []) = []
hex_bytes (x ∷ (y ∷ xs)) = hex_byte x y ∷ hex_bytes xs

-- a decimal number that goes on after the value so far; 0 where a byte is no digit, or the number is over 65,535
abbrev pub decimal_from : ℕ → List ℕ → ℕ
decimal_from n [] = n
decimal_from n (x ∷ xs) =
    cond (ltb (hex_digit x) 10 && leb (10 * n + hex_digit x) 65535) (decimal_from (10 * n + hex_digit x) xs) 0

-- "such digits, `*` and how often these bytes stand there in decimal"; without `*` once
abbrev pub digits_of : List ℕ → List ℕ
digits_of item = before 42 item

abbrev pub times_of : List ℕ → ℕ
times_of item =
    cond (ltb (length (digits_of item)) (length item)) (decimal_from 0 (drop (length (digits_of item) + 1) item)) 1

abbrev pub copies : ℕ → List ℕ → List ℕ
copies zero bytes = []
copies (suc n) bytes = bytes ++ copies n bytes

-- the bytes of an item; none where it has another form
unfoldable pub item_bytes : List ℕ → List ℕ
item_bytes item = cond (paired (digits_of item)) (copies (times_of item) (hex_bytes (digits_of item))) []

-- the bytes of items, one item after another
abbrev pub items_bytes : List (List ℕ) → List ℕ
items_bytes [] = []
items_bytes (item ∷ items) = item_bytes item ++ items_bytes items

-- whether each item has bytes
abbrev pub right : List (List ℕ) → Bool
right [] = true
right (item ∷ items) = leb 1 (length (item_bytes item)) && right items

-- "a line: `j` or `p`, then its items": the bytes of its file. There are none unless one byte stands before the first space, each
-- item has bytes, and there is room for all of them.
unfoldable pub file_of : List ℕ → ℕ → List ℕ
file_of line room =
    cond (eqb (length (before 32 line)) 1 && (right (items line) && leb (length (items_bytes (items line))) room))
    (items_bytes (items line)) []

-- the rule of `read_line`: the letter (0 where the line is empty), where the next line begins, how many bytes the file has
unfoldable pub line_rule : List ℕ → ℕ → ℕ → Described
line_rule text at room = record {
  letter = get_or (line_at text at) 0 0;
  next = next_line (length text) (at + length (line_at text at));
  len = length (file_of (line_at text at) room);
}

-- the room after it: the file's bytes come first, and what is beyond them is as it was
abbrev pub over : List ℕ → List ℕ → List ℕ
over bytes room = bytes ++ drop (length bytes) room

-- how much was read fits into its room
abbrev pub Fits : List ℕ → ℕ → Type 0
Fits room n = n ≤ length room
