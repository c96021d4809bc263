-- The verdict's line in bytes: 01, "`verdict` .. prints one line".
use Rattle.std.specs.Prelude.{ℕ, zero, suc, ◌+◌, ◌/◌, ◌%◌, ◌≤◌, ◌≡◌, cond, List, [], ◌∷◌, ◌++◌, ltb, length, Ok, Err}
use Rattle.histories.specs.Answers.{Answer}
use Rattle.endings.specs.Endings.{ascii, ending_word}
use Rattle.lines.specs.declared.text.Text.{Text}

-- a number's digits, at most `most` of them: those of the number divided by ten, where that is not 0, then the last one
abbrev pub digits : ℕ → ℕ → List ℕ
digits zero n = []
digits (suc most) n = cond (ltb n 10) [] (digits most (n / 10)) ++ ((48 + n % 10) ∷ [])

-- "numbers in decimal": n has no more than n + 1 digits
unfoldable pub decimal : ℕ → List ℕ
decimal n = digits (suc n) n

-- "one space between fields, a line feed last"
abbrev pub spaced : List (List ℕ) → List ℕ
spaced [] = 10 ∷ []
spaced (field ∷ []) = field ++ (10 ∷ [])
spaced (field ∷ (next ∷ fields)) = field ++ (32 ∷ spaced (next ∷ fields))

-- "`ok`, ending, stop, records, calls; or `no`, number, place, divergence, calls"; 02: "an `ok` line ends with" the failed steps
unfoldable pub line_of : Answer → List ℕ
line_of (Ok accepted) =
    spaced (ascii "ok" ∷ ending_word accepted.ending ∷ decimal accepted.stop ∷ decimal accepted.records ∷ decimal accepted.calls ∷ decimal accepted.failed ∷ [])
line_of (Err refused) =
    spaced (ascii "no" ∷ decimal refused.number ∷ decimal refused.place ∷ decimal refused.divergence ∷ decimal refused.calls ∷ [])

-- a line is this one. A clause sees a line as its bytes; `holding` says what those tell of the rest of it
pub record Holds (line : Text 128) (bytes : List ℕ) : Type 0 where
  pub whole : line ≡ bytes
  pub fits : length line ≤ 128
