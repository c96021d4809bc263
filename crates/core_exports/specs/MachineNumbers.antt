-- The machine at the boundary to C and Rust: its values as plain numbers, and its calls.
use Rattle.std.specs.Prelude.{Option, Some, None}
use Rattle.records.specs.declared.RecordRef.{RecordRef}
use Rattle.errors.specs.declared.Told.{Told}
use Rattle.cursor.specs.declared.PendingEffect.{PendingEffect}
use Rattle.answer_numbers.specs.CursorTold.{step_result_told}
use Rattle.machine.specs.declared.EffectRequest.{EffectRequest}
use Rattle.machine.specs.declared.TimerRequest.{TimerRequest}
use Rattle.machine.specs.declared.Next.{Next}
use Rattle.machine.specs.declared.Phase.{Phase}
use Rattle.machine.specs.declared.ReplayMachine.{ReplayMachine}
use Rattle.machine.specs.Divergences.{divergence_number}
use Rattle.machine.specs.Phases.{machine_advance_rule}
use Rattle.core_exports.specs.declared.CursorNumbers.{CursorNumbers}
use Rattle.core_exports.specs.declared.machines.RequestNumbers.{RequestNumbers}
use Rattle.core_exports.specs.declared.machines.PendingNumbers.{PendingNumbers}
use Rattle.core_exports.specs.declared.machines.MachineNumbers.{MachineNumbers}
use Rattle.core_exports.specs.declared.machines.MachineAnswered.{MachineAnswered}
use Rattle.core_exports.specs.declared.given.Turn.{Turn}
use Rattle.core_exports.specs.Numbers.{unnamed, of_named, cursor_numbers}

abbrev pub request_of : RequestNumbers → EffectRequest
request_of n = record { kind = record { 0 = n.kind }; input_len = n.input_len; input_crc = n.input_crc }

abbrev pub pending_from : PendingNumbers → PendingEffect
pending_from n =
    record {
      id = record { run = record { 0 = n.run }; seq = record { 0 = n.seq } };
      kind = record { 0 = n.kind };
      input_len = n.input_len;
      input_crc = n.input_crc;
    }

abbrev pub machine_numbers_for : CursorNumbers → Phase → MachineNumbers
machine_numbers_for c Phase.Settled = record { cursor = c; phase = 0; divergence = 0 }
machine_numbers_for c Phase.AwaitingOutcome = record { cursor = c; phase = 1; divergence = 0 }
machine_numbers_for c Phase.AwaitingFiring = record { cursor = c; phase = 2; divergence = 0 }
machine_numbers_for c (Phase.Diverged d) = record { cursor = c; phase = 3; divergence = divergence_number d }

abbrev pub machine_numbers : ReplayMachine → MachineNumbers
machine_numbers m = machine_numbers_for (cursor_numbers m.cursor) m.phase

abbrev pub answered : ReplayMachine → Told → MachineAnswered
answered m told = record { machine = machine_numbers m; answer = told }

-- what is said of the machine that the numbers name; where they name none, 60
abbrev pub of_machine : (ReplayMachine → Told) → Option ReplayMachine → Told
of_machine = of_named

-- where a number names nothing, the machine's numbers are given back as they were given, with 60
abbrev pub machine_kept : MachineNumbers → MachineAnswered
machine_kept given = record { machine = given; answer = unnamed }

abbrev pub machine_advanced_by : MachineNumbers → Option ReplayMachine → Option RecordRef → MachineAnswered
machine_advanced_by given (Some m) (Some x) =
    answered (machine_advance_rule m x).machine (step_result_told (machine_advance_rule m x).answer)
machine_advanced_by given (Some m) None = machine_kept given
machine_advanced_by given None x = machine_kept given

-- a call with the record or the end of history
abbrev pub called_by : MachineNumbers → (ReplayMachine → Next → MachineAnswered) → Option Turn → MachineAnswered
called_by given call (Some turn) = call turn.machine turn.next
called_by given call None = machine_kept given

-- a timer's request besides
abbrev pub requested_by : MachineNumbers → (TimerRequest → MachineAnswered) → Option TimerRequest → MachineAnswered
requested_by given call (Some request) = call request
requested_by given call None = machine_kept given
