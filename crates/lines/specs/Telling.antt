-- What `words_of` asks for beside the answer: the kind of the one entry that tells apart the words, and the number that stands for `#`.
use Rattle.std.specs.Prelude.{ℕ, ◌+◌, ◌-◌, cond, ◌&&◌, List, eqb, Ok, Err}
use Rattle.endings.specs.declared.Ending.{Ending}
use Rattle.endings.specs.Endings.{ending_number}
use Rattle.files.specs.declared.Entry.{Entry}
use Rattle.files.specs.Kinds.{no_entry, entry_in, kind_in}
use Rattle.histories.specs.Answers.{Answer}
use Rattle.lines.specs.declared.words.Telling.{Telling}

-- the record before a place; before the first there is none
abbrev pub entry_before : List ℕ → ℕ → Entry
entry_before journal place = cond (eqb place 0) no_entry (entry_in journal (place - 1))

-- the kind for one ending: at *due* and *open* the plan's step, at *finished* the last record
abbrev pub ending_kind : List ℕ → List ℕ → Ending → ℕ → ℕ → ℕ
ending_kind journal plan Ending.Unstarted stop records = 0
ending_kind journal plan Ending.Due stop records = kind_in plan stop
ending_kind journal plan Ending.Done stop records = 0
ending_kind journal plan Ending.Open stop records = kind_in plan stop
ending_kind journal plan Ending.Finished stop records = (entry_before journal records).kind

-- the kind for one refusal: at 24 the record before the refused one, at 31 the refused one itself
abbrev pub refused_kind : List ℕ → ℕ → ℕ → ℕ
refused_kind journal number place =
    cond (eqb number 24) (entry_before journal place).kind (cond (eqb number 31) (kind_in journal place) 0)

-- the number for one ending: the stop; at *due*, where the plan's step is a gate (kind 9), the gate
abbrev pub ending_shown : List ℕ → Ending → ℕ → ℕ
ending_shown plan ending stop =
    cond (eqb (ending_number ending) (ending_number Ending.Due) && eqb (kind_in plan stop) 9) (entry_in plan stop).a stop

-- the step that comes after a record: 0 after the start (kind 1); any other record there closes a step and bears its number
abbrev pub step_next : Entry → ℕ
step_next e = cond (eqb e.kind 1) 0 (e.s + 1)

-- the number for one refusal: the place; for 45 the step at which the run was completed (`shown_step`)
abbrev pub refused_shown : List ℕ → ℕ → ℕ → ℕ
refused_shown journal number place = cond (eqb number 45) (step_next (entry_before journal place)) place

abbrev pub telling_of : List ℕ → List ℕ → Answer → Telling
telling_of journal plan (Ok accepted) =
    record { kind = ending_kind journal plan accepted.ending accepted.stop accepted.records; number = ending_shown plan accepted.ending accepted.stop }
telling_of journal plan (Err refused) =
    record { kind = refused_kind journal refused.number refused.place; number = refused_shown journal refused.number refused.place }
