-- A text in a lent buffer, and the version in numbers, as Rust or C sees them.
use Rattle.std.specs.Prelude.{ℕ, ◌+◌, ◌*◌, ◌≤◌, cond, List, [], ◌∷◌, ◌++◌, leb, length, drop}
use Rattle.histories.specs.Answers.{Answer}
use Rattle.lines.specs.Line.{decimal}
use Rattle.endings.specs.Endings.{ascii}
use Rattle.lines.specs.Words.{words_of}
use Rattle.lines.specs.Telling.{telling_of}
use Rattle.resume.specs.Verdict.{verdict_rule}

-- how many bytes are written, and what the buffer is then: the whole text and what stood beyond it, or nothing
unfoldable pub lent : List ℕ → List ℕ → ℕ × List ℕ
lent text room = cond (leb (length text) (length room)) (length text, text ++ drop (length text) room) (0, room)

-- a text that is never empty, so that 0 says that it does not fit; and always fits into 128 bytes
pub record Sized (text : List ℕ) : Type 0 where
  pub some : 1 ≤ length text
  pub most : length text ≤ 128

-- the words of an answer on these files
abbrev pub answer_words : List ℕ → List ℕ → Answer → List ℕ
answer_words journal plan answer = words_of answer (telling_of journal plan answer)

-- the words of the verdict on these files
abbrev pub words_for : List ℕ → List ℕ → List ℕ
words_for journal plan = answer_words journal plan (verdict_rule journal plan)

-- a version in one number
abbrev pub version_number : ℕ → ℕ → ℕ → ℕ
version_number major minor patch = major * 1000000 + minor * 1000 + patch

-- the same as the programs print it
abbrev pub version_text : ℕ → ℕ → ℕ → List ℕ
version_text major minor patch =
    ascii "hiskurdo " ++ decimal major ++ (46 ∷ []) ++ decimal minor ++ (46 ∷ []) ++ decimal patch ++ (10 ∷ [])
