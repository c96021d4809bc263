-- What the columns of a row say, each in bytes: by what reading a file says, or by the verdict's answer. A column is empty where a
-- file does not say it: one that cannot be read says nothing.
use Rattle.std.specs.Prelude.{ℕ, cond, List, [], ◌++◌, eqb, Result, Ok, Err}
use Rattle.clocks.specs.declared.ClockCapability.{ClockCapability}
use Rattle.endings.specs.Endings.{ascii, ending_word, still_to_run}
use Rattle.files.specs.declared.Entry.{Entry}
use Rattle.files.specs.Kinds.{entry_in}
use Rattle.files.specs.Reading.{journal_rule, plan_rule}
use Rattle.histories.specs.Answers.{Answer}
use Rattle.lines.specs.Line.{decimal}
use Rattle.lines.specs.Words.{filled}
use Rattle.files.specs.declared.JournalHead.{JournalHead}
use Rattle.files.specs.declared.PlanHead.{PlanHead}
use Rattle.files.specs.declared.Refusal.{Refusal}

-- the run number, as the journal's header has it
abbrev pub run_read : Result JournalHead Refusal → List ℕ
run_read (Err refusal) = []
run_read (Ok journal) = decimal journal.run.0

unfoldable pub run_column : List ℕ → List ℕ
run_column journal = run_read (journal_rule journal)

-- one word: the ending, or that the run is refused
unfoldable pub state_column : Answer → List ℕ
state_column (Ok accepted) = ending_word accepted.ending
state_column (Err refused) = ascii "refused"

-- the step that is to run
unfoldable pub step_column : Answer → List ℕ
step_column (Ok accepted) = cond (still_to_run accepted.ending) (decimal accepted.stop) []
step_column (Err refused) = []

-- the steps in the plan
abbrev pub steps_read : Result PlanHead Refusal → List ℕ
steps_read (Err refusal) = []
steps_read (Ok plan) = decimal plan.count

unfoldable pub steps_column : List ℕ → List ℕ
steps_column plan = steps_read (plan_rule plan)

-- what an entry of a plan is: an effect (kind 2) with its activity, a timer (5) with clock and deadline, a gate (9) with its version
abbrev pub timer_text : Entry → List ℕ
timer_text e = filled e.d (cond (eqb e.clock 1) (ascii "timer boot #") (ascii "timer persistent #"))

abbrev pub gate_text : Entry → List ℕ
gate_text e = filled e.a (ascii "gate #") ++ (ascii " version " ++ decimal e.d)

abbrev pub entry_text : Entry → List ℕ
entry_text e =
    cond (eqb e.kind 2) (filled e.a (ascii "effect #"))
    (cond (eqb e.kind 5) (timer_text e) (cond (eqb e.kind 9) (gate_text e) []))

-- what the step is that is to run: entry k of a readable plan is its step k (`what_step`)
unfoldable pub what_column : List ℕ → Answer → List ℕ
what_column plan (Ok accepted) = cond (still_to_run accepted.ending) (entry_text (entry_in plan accepted.stop)) []
what_column plan (Err refused) = []

-- the failed steps
unfoldable pub failed_column : Answer → List ℕ
failed_column (Ok accepted) = decimal accepted.failed
failed_column (Err refused) = []

-- the board, by the capability that the plan names
abbrev pub board_word : ClockCapability → List ℕ
board_word ClockCapability.BootOnly = ascii "boot-only"
board_word ClockCapability.Persistent = ascii "persistent"

abbrev pub board_read : Result PlanHead Refusal → List ℕ
board_read (Err refusal) = []
board_read (Ok plan) = board_word plan.capability

unfoldable pub board_column : List ℕ → List ℕ
board_column plan = board_read (plan_rule plan)
