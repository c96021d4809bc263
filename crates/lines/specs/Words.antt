-- What an answer means in plain words: one table, with a row for each ending and each refusal that files can reach.
use Rattle.std.specs.Prelude.{ℕ, Bool, cond, not, ◌&&◌, ◌||◌, List, [], ◌∷◌, ◌++◌, eqb, Ok, Err}
use Prim.Native.String.{String}
use Rattle.records.specs.Records.{among, opener_kinds}
use Rattle.histories.specs.Answers.{Answer}
use Rattle.endings.specs.declared.Ending.{Ending}
use Rattle.endings.specs.Endings.{ascii, ending_number, still_to_run}
use Rattle.lines.specs.Line.{decimal}
use Rattle.lines.specs.declared.words.Telling.{Telling}

-- a refusal's number (0 of an ending), the detail that tells apart those of one number, and the words; `#` stands for the number
-- that is told
pub record Row : Type 0 where
  pub number : ℕ
  pub detail : ℕ
  pub words : String

abbrev row : ℕ → ℕ → String → Row
row number detail words = record { number = number; detail = detail; words = words }

abbrev pub table : List Row
table =
    row 0 0 "Nothing to resume: the run was never started" ∷
    row 0 1 "Start step #" ∷
    row 0 2 "Nothing left to do: every step has its outcome or marker" ∷
    row 0 3 "Deliver step # again: it was begun and has no outcome" ∷
    row 0 4 "The run completed; whole steps: #" ∷
    row 0 5 "Arm the timer of step # again: it was armed and has not fired" ∷
    row 0 6 "The run failed; whole steps: #" ∷
    row 0 7 "Write the marker of gate #, with the version in the plan" ∷
    row 1 0 "Journal: missing, unreadable or under 16 bytes" ∷
    row 2 0 "Journal: over 32,768 bytes" ∷
    row 3 0 "Journal: not a journal file" ∷
    row 4 0 "Journal: more than 1,024 records" ∷
    row 6 0 "Journal: cut short or grown, its length is not what its header says" ∷
    row 7 0 "Journal: entry # has an unknown kind" ∷
    row 8 0 "Journal: entry # has a field above its greatest value" ∷
    row 9 0 "Journal: the bodies' lengths do not sum to the header's" ∷
    row 11 0 "Plan: missing, unreadable or under 16 bytes" ∷
    row 12 0 "Plan: over 32,768 bytes" ∷
    row 13 0 "Plan: not a plan file" ∷
    row 14 0 "Plan: more than 1,024 steps" ∷
    row 15 0 "Plan: it does not say which clocks the board has" ∷
    row 16 0 "Plan: cut short or grown, its length is not what its header says" ∷
    row 17 0 "Plan: entry # is no effect, no timer and no gate" ∷
    row 18 0 "Plan: entry # has a field that a plan may not have" ∷
    row 19 0 "Plan: the inputs' lengths do not sum to the header's" ∷
    row 22 1 "Steps carry consecutive numbers: record # has another number (a dispense lost or doubled)" ∷
    row 22 2 "Each step matches the plan: record # has another activity" ∷
    row 22 4 "Each step matches the plan: record # is of another kind (or a step before it was lost or doubled)" ∷
    row 22 5 "Each step matches the plan: record # is the marker of another gate or version" ∷
    row 22 6 "Each step matches the plan: record # has another clock or deadline" ∷
    row 22 8 "Each step matches the plan: record # has another input length" ∷
    row 22 9 "Each step matches the plan: record # has the same input length, another CRC" ∷
    row 23 0 "Recorded timers fit this board's clocks: the timer of record # does not" ∷
    row 24 0 "First record opens the run: record # does not (a file from another stage)" ∷
    row 24 1 "Steps carry consecutive numbers: record # cannot follow the one before it (lost or doubled)" ∷
    row 24 2 "An open step is never shown as done: record # is not the outcome of the step opened before it" ∷
    row 25 0 "Recorded timers fit this board's clocks: the next step's timer, due at record #, does not" ∷
    row 31 0 "Each step matches the plan: record # opens a step beyond the plan's last" ∷
    row 31 1 "Each step matches the plan: record # is a version marker after the plan's last step" ∷
    row 44 0 "Plan: entry # is a timer of 0: fill in the incubation" ∷
    row 45 0 "Each step matches the plan: the run was completed at step # of the plan, before its last" ∷ []

abbrev pub other_words : String
other_words = "No file can give this answer: keep both files and report them"

abbrev pub is_of : ℕ → ℕ → Row → Bool
is_of number detail r = eqb r.number number && eqb r.detail detail

-- the words of the first row with this number and detail
abbrev pub words_in : List Row → ℕ → ℕ → String
words_in [] number detail = other_words
words_in (r ∷ rows) number detail = cond (is_of number detail r) r.words (words_in rows number detail)

-- a text with the number n in the place of `#`
abbrev pub shown : ℕ → ℕ → List ℕ
shown n byte = cond (eqb byte 35) (decimal n) (byte ∷ [])

abbrev pub filled : ℕ → List ℕ → List ℕ
filled n [] = []
filled n (byte ∷ bytes) = shown n byte ++ filled n bytes

-- What tells apart the words of one answer is the kind of one entry (which one, Telling says): 2 an effect's opener, 5 a timer's,
-- 8 a failed run, 9 a marker or a gate. At *due* and *open* it is the step's, at *finished* the last record's.
abbrev pub ending_detail : Ending → ℕ → ℕ
ending_detail Ending.Unstarted kind = 0
ending_detail Ending.Due kind = cond (eqb kind 9) 7 1
ending_detail Ending.Done kind = 2
ending_detail Ending.Open kind = cond (eqb kind 5) 5 3
ending_detail Ending.Finished kind = cond (eqb kind 8) 6 4

-- of refusals the divergence; for 24 whether the record is the first one, or comes after one that opens a step; for 31 whether it
-- is a marker
abbrev pub detail_of : ℕ → ℕ → ℕ → ℕ → ℕ
detail_of number place divergence kind =
    cond (eqb number 24) (cond (eqb place 0) 0 (cond (among opener_kinds kind) 2 1))
    (cond (eqb number 31) (cond (eqb kind 9) 1 0) divergence)

-- How many steps failed is told where one did, and of a run that is done in any case.
abbrev pub tells_failed : Ending → ℕ → Bool
tells_failed ending failed = eqb (ending_number ending) (ending_number Ending.Done) || not (eqb failed 0)

-- then the words of the ending go on so
abbrev pub failed_words : ℕ → List ℕ
failed_words failed = ascii "; failed steps: " ++ decimal failed

abbrev pub ending_words : Ending → ℕ → ℕ → ℕ → List ℕ
ending_words ending n kind failed =
    filled n (ascii (words_in table 0 (ending_detail ending kind))) ++ cond (tells_failed ending failed) (failed_words failed) []

-- what to do at which step, or which line of the checklist failed and where
unfoldable pub words_of : Answer → Telling → List ℕ
words_of (Ok accepted) telling = ending_words accepted.ending telling.number telling.kind accepted.failed
words_of (Err refused) telling =
    filled telling.number (ascii (words_in table refused.number (detail_of refused.number refused.place refused.divergence telling.kind)))

-- whether the run may be resumed, and at which step: it may where a step is still to run
unfoldable pub resume_of : Answer → List ℕ
resume_of (Ok accepted) = filled accepted.stop (ascii (cond (still_to_run accepted.ending) "yes, step #" "no"))
resume_of (Err refused) = ascii "no"

-- the version, as both programs print it
abbrev pub version_line : List ℕ
version_line = ascii "hiskurdo 0.2.0\n"
