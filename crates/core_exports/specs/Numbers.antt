-- The boundary to C and Rust: values as plain numbers, and what is answered where a given number names nothing.
use Rattle.std.specs.Prelude.{ℕ, Option, Some, None}
use Rattle.ids.specs.declared.EffectSeq.{EffectSeq}
use Rattle.errors.specs.declared.Told.{Told}
use Rattle.errors.specs.Errors.{error_number}
use Rattle.errors.specs.Told.{told0}
use Rattle.ids.specs.declared.EffectIdAllocator.{EffectIdAllocator}
use Rattle.ids.specs.declared.Allocated.{Allocated}
use Rattle.ids.specs.Allocator.{resumed, allocation}
use Rattle.ids.specs.Told.{effect_id_result_told}
use Rattle.clocks.specs.declared.ClockCapability.{ClockCapability}
use Rattle.clocks.specs.declared.TimerSpec.{TimerSpec}
use Rattle.records.specs.declared.RecordRef.{RecordRef}
use Rattle.cursor.specs.declared.State.{State}
use Rattle.cursor.specs.declared.ReplayCursor.{ReplayCursor}
use Rattle.cursor.specs.declared.Advanced.{Advanced}
use Rattle.cursor.specs.Advance.{advance_rule}
use Rattle.answer_numbers.specs.CursorTold.{step_result_told}
use Rattle.core_exports.specs.declared.IdsNumbers.{IdsNumbers}
use Rattle.core_exports.specs.declared.AllocatedNumbers.{AllocatedNumbers}
use Rattle.core_exports.specs.declared.CursorNumbers.{CursorNumbers}
use Rattle.core_exports.specs.declared.AdvancedNumbers.{AdvancedNumbers}

-- the refusal of this boundary, "a number here names nothing", which neither 01 nor 02 numbers
abbrev pub names_nothing : ℕ
names_nothing = 60

abbrev pub unnamed : Told
unnamed = told0 names_nothing

-- what is said of the value that the numbers name; where they name none, 60
abbrev pub of_named : {A : Type 0} → (A → Told) → Option A → Told
of_named says (Some x) = says x
of_named says None = unnamed

abbrev pub of_ids : (EffectIdAllocator → Told) → Option EffectIdAllocator → Told
of_ids = of_named

abbrev pub of_spec : (TimerSpec → Told) → Option TimerSpec → Told
of_spec = of_named

abbrev pub of_board : (ClockCapability → Told) → Option ClockCapability → Told
of_board = of_named

abbrev pub of_record : (RecordRef → Told) → Option RecordRef → Told
of_record = of_named

abbrev pub of_cursor : (ReplayCursor → Told) → Option ReplayCursor → Told
of_cursor = of_named

-- where a number names nothing, the numbers of the state are given back as they were given, with 60
abbrev pub ids_kept : IdsNumbers → AllocatedNumbers
ids_kept given = record { ids = given; answer = unnamed }

abbrev pub cursor_kept : CursorNumbers → AdvancedNumbers
cursor_kept given = record { cursor = given; answer = unnamed }

abbrev pub ids_numbers_for : ℕ → Option EffectSeq → IdsNumbers
ids_numbers_for run (Some seq) = record { run = run; next = seq.0; offers = 1 }
ids_numbers_for run None = record { run = run; next = 0; offers = 0 }

abbrev pub ids_numbers : EffectIdAllocator → IdsNumbers
ids_numbers ids = ids_numbers_for ids.run.0 ids.next

abbrev pub allocated_numbers : Allocated → AllocatedNumbers
allocated_numbers a = record { ids = ids_numbers a.ids; answer = effect_id_result_told a.answer }

abbrev pub allocated_by : IdsNumbers → Option EffectIdAllocator → AllocatedNumbers
allocated_by given (Some ids) = allocated_numbers (allocation ids)
allocated_by given None = ids_kept given

-- the allocator that goes on after what was committed, with 0
abbrev pub resumed_by : IdsNumbers → Option (Option EffectSeq) → AllocatedNumbers
resumed_by given (Some last) =
    record { ids = ids_numbers (resumed (record { 0 = given.run }) last); answer = told0 0 }
resumed_by given None = ids_kept given

-- a cursor that holds nothing open; its error is 0 unless it has halted
abbrev pub bare : IdsNumbers → ℕ → ℕ → ℕ → CursorNumbers
bare ids failed position error =
    record {
      ids = ids;
      failed = failed;
      deadline = 0;
      armed_at = 0;
      seq = 0;
      input_crc = 0;
      kind = 0;
      input_len = 0;
      position = position;
      clock_kind = 0;
      «error» = error;
    }

-- a cursor with a boundary open: what its schedule recorded, 0 for what the other kind of boundary records
abbrev pub cursor_numbers_for : IdsNumbers → ℕ → State → CursorNumbers
cursor_numbers_for ids failed State.BeforeRun = bare ids failed 0 0
cursor_numbers_for ids failed State.Replaying = bare ids failed 1 0
cursor_numbers_for ids failed (State.AwaitingOutcome scheduled) =
    record {
      ids = ids;
      failed = failed;
      deadline = 0;
      armed_at = 0;
      seq = scheduled.seq.0;
      input_crc = scheduled.input_crc;
      kind = scheduled.kind.0;
      input_len = scheduled.input_len;
      position = 2;
      clock_kind = 0;
      «error» = 0;
    }
cursor_numbers_for ids failed (State.AwaitingTimer armed) =
    record {
      ids = ids;
      failed = failed;
      deadline = armed.deadline;
      armed_at = armed.armed_at;
      seq = armed.seq.0;
      input_crc = 0;
      kind = 0;
      input_len = 0;
      position = 3;
      clock_kind = armed.clock_kind.0;
      «error» = 0;
    }
cursor_numbers_for ids failed State.RunCompleted = bare ids failed 4 0
cursor_numbers_for ids failed State.RunFailed = bare ids failed 5 0
cursor_numbers_for ids failed (State.Halted x) = bare ids failed 6 (error_number x)

abbrev pub cursor_numbers : ReplayCursor → CursorNumbers
cursor_numbers c = cursor_numbers_for (ids_numbers c.ids) c.failed c.state

abbrev pub advanced_numbers : Advanced → AdvancedNumbers
advanced_numbers a = record { cursor = cursor_numbers a.cursor; answer = step_result_told a.answer }

abbrev pub cursor_advanced_by : CursorNumbers → Option ReplayCursor → Option RecordRef → AdvancedNumbers
cursor_advanced_by given (Some c) (Some x) = advanced_numbers (advance_rule c x)
cursor_advanced_by given (Some c) None = cursor_kept given
cursor_advanced_by given None x = cursor_kept given
