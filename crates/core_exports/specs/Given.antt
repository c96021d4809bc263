-- The boundary to C and Rust: what the numbers name that a caller gives. A number that no list has names nothing. The list of the
-- divergences is the machine's own, the others stand here.
use Rattle.std.specs.Prelude.{ℕ, cond, eqb, Option, Some, None}
use Rattle.clocks.specs.declared.TimerSpec.{TimerSpec}
use Rattle.machine.specs.declared.TimerRequest.{TimerRequest}
use Rattle.cursor.specs.declared.State.{State}
use Rattle.machine.specs.declared.ReplayMachine.{ReplayMachine}
use Rattle.cursor.specs.declared.ReplayCursor.{ReplayCursor}
use Rattle.records.specs.declared.RecordRef.{RecordRef}
use Rattle.machine.specs.declared.Phase.{Phase}
use Rattle.machine.specs.declared.Next.{Next}
use Rattle.errors.specs.declared.KernelError.{KernelError}
use Rattle.ids.specs.declared.EffectSeq.{EffectSeq}
use Rattle.ids.specs.declared.EffectIdAllocator.{EffectIdAllocator}
use Rattle.machine.specs.declared.Divergence.{Divergence}
use Rattle.clocks.specs.declared.ClockCapability.{ClockCapability}
use Rattle.clocks.specs.Specs.{recorded_spec, capability_of}
use Rattle.records.specs.Fields.{record_by}
use Rattle.cursor.specs.Readers.{cursor_at, with_failed}
use Rattle.machine.specs.Divergences.{divergence_named}
use Rattle.core_exports.specs.declared.IdsNumbers.{IdsNumbers}
use Rattle.core_exports.specs.declared.SpecNumbers.{SpecNumbers}
use Rattle.core_exports.specs.declared.RecordNumbers.{RecordNumbers}
use Rattle.core_exports.specs.declared.CursorNumbers.{CursorNumbers}
use Rattle.core_exports.specs.declared.machines.MachineNumbers.{MachineNumbers}
use Rattle.core_exports.specs.declared.given.Turn.{Turn}

-- a number that is offered or was committed, by its flag: 0 none, 1 the number
abbrev pub offer_named : ℕ → ℕ → Option (Option EffectSeq)
offer_named flag n =
    cond (eqb flag 0) (Some None)
    (cond (eqb flag 1) (Some (Some (record { 0 = n }))) None)

abbrev pub ids_with : ℕ → Option (Option EffectSeq) → Option EffectIdAllocator
ids_with run (Some next) = Some (record { run = record { 0 = run }; next = next })
ids_with run None = None

abbrev pub ids_named : IdsNumbers → Option EffectIdAllocator
ids_named n = ids_with n.run (offer_named n.offers n.next)

-- clock 1 or 2; "others have no spec"
abbrev pub spec_named : SpecNumbers → Option TimerSpec
spec_named n = recorded_spec (record { 0 = n.clock }) n.deadline

-- a record by the fields of a journal entry, its body m bytes from start; a field that its kind does not hold is not read
abbrev pub record_named : RecordNumbers → Option RecordRef
record_named n = record_by n.kind n.clock n.a n.s n.d n.m (record { start = n.start; len = n.m })

-- the refusal with the number n
abbrev pub error_named : ℕ → Option KernelError
error_named n =
    cond (eqb n 21) (Some KernelError.IdExhausted)
    (cond (eqb n 22) (Some KernelError.NondeterministicWorkflow)
    (cond (eqb n 23) (Some KernelError.IncompatibleWorkflow)
    (cond (eqb n 24) (Some KernelError.MalformedHistory)
    (cond (eqb n 25) (Some KernelError.NoPersistentClock)
    (cond (eqb n 26) (Some KernelError.ClockWentBackwards) None)))))

abbrev pub halted_by : Option KernelError → Option State
halted_by (Some x) = Some (State.Halted x)
halted_by None = None

-- the position by its place among the positions, with what it holds; a field that it does not hold is not read
abbrev pub state_at : ℕ → CursorNumbers → Option State
state_at position n =
    cond (eqb position 0) (Some State.BeforeRun)
    (cond (eqb position 1) (Some State.Replaying)
    (cond (eqb position 2)
    (Some
    (State.AwaitingOutcome
    (record {
      seq = record { 0 = n.seq };
      kind = record { 0 = n.kind };
      input_len = n.input_len;
      input_crc = n.input_crc;
    })))
    (cond (eqb position 3)
    (Some
    (State.AwaitingTimer
    (record {
      seq = record { 0 = n.seq };
      clock_kind = record { 0 = n.clock_kind };
      deadline = n.deadline;
      armed_at = n.armed_at;
    })))
    (cond (eqb position 4) (Some State.RunCompleted)
    (cond (eqb position 5) (Some State.RunFailed)
    (cond (eqb position 6) (halted_by (error_named n.«error»)) None))))))

abbrev pub state_named : CursorNumbers → Option State
state_named n = state_at n.position n

-- any count may be given
abbrev pub cursor_by : ℕ → Option EffectIdAllocator → Option State → Option ReplayCursor
cursor_by failed (Some ids) (Some state) = Some (with_failed (cursor_at ids state) failed)
cursor_by failed (Some ids) None = None
cursor_by failed None state = None

abbrev pub cursor_named : CursorNumbers → Option ReplayCursor
cursor_named n = cursor_by n.failed (ids_named n.ids) (state_named n)

abbrev pub diverged_by : Option Divergence → Option Phase
diverged_by (Some d) = Some (Phase.Diverged d)
diverged_by None = None

-- the phase by its place among the phases; the divergence is read where it has diverged
abbrev pub phase_named : ℕ → ℕ → Option Phase
phase_named phase divergence =
    cond (eqb phase 0) (Some Phase.Settled)
    (cond (eqb phase 1) (Some Phase.AwaitingOutcome)
    (cond (eqb phase 2) (Some Phase.AwaitingFiring)
    (cond (eqb phase 3) (diverged_by (divergence_named divergence)) None)))

abbrev pub machine_with : Option ReplayCursor → Option Phase → Option ReplayMachine
machine_with (Some cursor) (Some phase) = Some (record { cursor = cursor; phase = phase })
machine_with (Some cursor) None = None
machine_with None phase = None

abbrev pub machine_named : MachineNumbers → Option ReplayMachine
machine_named n = machine_with (cursor_named n.cursor) (phase_named n.phase n.divergence)

abbrev pub next_by : Option RecordRef → Option Next
next_by (Some x) = Some (Next.Record x)
next_by None = None

-- `ended` 0: the record; 1: the end of history, and the record is not read
abbrev pub next_named : ℕ → RecordNumbers → Option Next
next_named ended x =
    cond (eqb ended 0) (next_by (record_named x)) (cond (eqb ended 1) (Some Next.EndOfHistory) None)

-- a machine with what it is asked about
abbrev pub turn_with : Option ReplayMachine → Option Next → Option Turn
turn_with (Some m) (Some next) = Some (record { machine = m; next = next })
turn_with (Some m) None = None
turn_with None next = None

abbrev pub turn_named : MachineNumbers → ℕ → RecordNumbers → Option Turn
turn_named n ended x = turn_with (machine_named n) (next_named ended x)

abbrev pub request_with : Option TimerSpec → Option ClockCapability → Option TimerRequest
request_with (Some spec) (Some board) =
    Some (record { spec = spec; capability = board })
request_with (Some spec) None = None
request_with None board = None

abbrev pub timer_request_named : SpecNumbers → ℕ → Option TimerRequest
timer_request_named spec capability = request_with (spec_named spec) (capability_of capability)
