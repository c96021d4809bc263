-- The walk to the end of numbering, from a fresh machine of run 7: 01, "Modules", 1, 4 and 5.
use Rattle.std.specs.Prelude.{ℕ, ◌+◌, ◌≡◌, Option, Some, None, Result, Ok}
use Rattle.cursor.specs.declared.Step.{Step}
use Rattle.errors.specs.declared.KernelError.{KernelError}
use Rattle.ids.specs.declared.EffectSeq.{EffectSeq}
use Rattle.ids.specs.declared.RunId.{RunId}
use Rattle.records.specs.declared.RecordRef.{RecordRef}
use Rattle.cursor.specs.declared.State.TheVariants as State
use Rattle.cursor.specs.Advance.{accepted_step}
use Rattle.cursor.specs.Readers.{cursor_at}
use Rattle.machine.specs.declared.Phase.TheVariants as Phase
use Rattle.machine.specs.declared.ReplayMachine.{ReplayMachine}
use Rattle.machine.specs.Phases.{fresh_machine, machine_advance_rule}
use Rattle.test_numbering.specs.declared.Walked.{Walked}

abbrev pub walked_run : RunId
walked_run = record { 0 = 7 }

abbrev pub start : RecordRef
start = RecordRef.RunStarted 1 1 (record { start = 0; len = 0 })

abbrev pub marker : ℕ → RecordRef
marker n = RecordRef.VersionMarker (record { 0 = n }) (record { 0 = 1 }) 1

-- "Accepted, the answer is the record's fields, its number joined with the run number."
abbrev pub marker_accepted : ℕ → Result Step KernelError
marker_accepted n = Ok (accepted_step walked_run (marker n))

-- Where a fresh machine stands after its start and the markers 0 to n - 1, each of them accepted under its own number.
pub data Marked : ℕ → ReplayMachine → Type 0 where
  none : Marked 0 (machine_advance_rule (fresh_machine walked_run) start).machine
  one_more : (n : ℕ) (m next : ReplayMachine) → Marked n m
      → machine_advance_rule m (marker n) ≡ record { machine = next; answer = marker_accepted n } → Marked (n + 1) next

-- a machine of that run which replays, is settled and offers this
abbrev pub offering : Option EffectSeq → ReplayMachine
offering next =
    record {
      cursor = cursor_at (record { run = walked_run; next = next }) State.Replaying;
      phase = Phase.Settled;
    }

-- 01, "Modules", 1: "after committing s it offers s + 1"
abbrev pub after_markers : ℕ → ReplayMachine
after_markers n = offering (Some (record { 0 = n }))

-- ".. or nothing once s is 4,294,967,295"
abbrev pub walk_rule : Walked
walk_rule =
    record { before = after_markers 4294967295; machine = offering None; markers = 4294967296 }
