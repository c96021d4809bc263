-- The row of a run folder: its name, whether it may be resumed and at which step, the verdict's line, and plain words.
use Rattle.std.specs.Prelude.{ℕ, ◌-◌, List, [], ◌∷◌, ◌++◌, length, take}
use Rattle.histories.specs.Answers.{Answer}
use Rattle.lines.specs.declared.words.Telling.{Telling}
use Rattle.lines.specs.Line.{line_of}
use Rattle.lines.specs.Words.{words_of, resume_of}
use Rattle.lines.specs.Telling.{telling_of}
use Rattle.file_bytes.specs.Names.{clean}
use Rattle.resume.specs.Verdict.{verdict_rule}

-- a folder's name as it is shown
abbrev pub cleaned : List ℕ → List ℕ
cleaned [] = []
cleaned (byte ∷ bytes) = clean byte ∷ cleaned bytes

-- a field and the byte that ends it
abbrev pub ended : List ℕ → ℕ → List ℕ
ended text last = text ++ (last ∷ [])

-- the line without its line feed
abbrev pub printed : Answer → List ℕ
printed answer = take (length (line_of answer) - 1) (line_of answer)

-- what follows the name: a tab between two fields, a line feed last
abbrev pub answer_fields : Answer → Telling → List ℕ
answer_fields answer telling = ended (resume_of answer) 9 ++ (ended (printed answer) 9 ++ ended (words_of answer telling) 10)

abbrev pub fields : List ℕ → List ℕ → List ℕ → Answer → List ℕ
fields name journal plan answer = ended (cleaned name) 9 ++ answer_fields answer (telling_of journal plan answer)

unfoldable pub row_of : List ℕ → List ℕ → List ℕ → List ℕ
row_of name journal plan = fields name journal plan (verdict_rule journal plan)
