-- The answers of the files' reader in numbers, as Rust or C sees them.
use Rattle.std.specs.Prelude.{Option, Some, None}
use Rattle.errors.specs.declared.Told.{Told}
use Rattle.records.specs.declared.Body.{Body}
use Rattle.records.specs.declared.RecordRef.{RecordRef}
use Rattle.files.specs.declared.Entry.{Entry}
use Rattle.files.specs.declared.PlanStep.{PlanStep}
use Rattle.files.specs.declared.StepRequest.TheVariants as StepRequest
use Rattle.files.specs.declared.Walk.{Walk}
use Rattle.files.specs.Encoding.{entry_with, record_entry, step_entry}
use Rattle.hiskurdo.specs.declared.ReadNumbers.{ReadNumbers}
use Rattle.hiskurdo.specs.declared.EntryNumbers.{EntryNumbers}
use Rattle.files.specs.declared.Walked.{Walked}

-- the readers' answers: number, place, what the header says, count
abbrev pub read_numbers : Told → ReadNumbers
read_numbers t = record { number = t.number; place = t.a; head = t.b; count = t.c }

-- the empty body at 0 stands for none
abbrev pub no_body : Body
no_body = record { start = 0; len = 0 }

abbrev pub record_body : RecordRef → Body
record_body (RecordRef.RunStarted kind version body) = body
record_body (RecordRef.EffectScheduled seq kind len crc) = no_body
record_body (RecordRef.EffectCompleted seq body) = body
record_body (RecordRef.EffectFailed seq body) = body
record_body (RecordRef.TimerScheduled seq clock deadline armed) = no_body
record_body (RecordRef.TimerFired seq) = no_body
record_body (RecordRef.RunCompleted body) = body
record_body (RecordRef.RunFailed body) = body
record_body (RecordRef.VersionMarker seq gate version) = no_body

abbrev pub step_body : PlanStep → Body
step_body (PlanStep.Request (StepRequest.Effect kind len crc input)) = input
step_body (PlanStep.Request (StepRequest.Timer spec)) = no_body
step_body (PlanStep.Gate gate version) = no_body

abbrev pub entry_numbers : Entry → Body → Walk → EntryNumbers
entry_numbers e body next =
    record {
      kind = e.kind;
      clock = e.clock;
      a = e.a;
      s = e.s;
      d = e.d;
      m = e.m;
      start = body.start;
      len = body.len;
      next_entry = next.entry;
      next_body = next.body;
    }

-- kind 0 where nothing stands there, with the walk as it was
abbrev pub nothing : Walk → EntryNumbers
nothing w = entry_numbers (entry_with 0 0 0 0 0 0) no_body w

abbrev pub record_numbers : Walk → Option (Walked RecordRef) → EntryNumbers
record_numbers w (Some found) = entry_numbers (record_entry found.item) (record_body found.item) found.next
record_numbers w None = nothing w

abbrev pub step_numbers : Walk → Option (Walked PlanStep) → EntryNumbers
step_numbers w (Some found) = entry_numbers (step_entry found.item) (step_body found.item) found.next
step_numbers w None = nothing w
