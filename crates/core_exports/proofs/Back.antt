-- The numbers that an export tells of a state name that state: no answer's state is ever refused.
use Rattle.std.specs.Prelude.{Option, Some, None}
use Rattle.ids.specs.declared.EffectSeq.{EffectSeq}
use Prim.Native.Nat.{ℕ}
use mathlib.Core.Path.{◌≡◌, refl, ap, sym, ◌∙◌}
use Rattle.errors.specs.declared.KernelError.{KernelError}
use Rattle.errors.specs.Errors.{error_number}
use Rattle.ids.specs.declared.RunId.{RunId}
use Rattle.ids.specs.declared.EffectIdAllocator.{EffectIdAllocator}
use Rattle.cursor.specs.declared.State.{State}
use Rattle.cursor.specs.declared.ReplayCursor.{ReplayCursor}
use Rattle.machine.specs.declared.Divergence.{Divergence}
use Rattle.machine.specs.declared.Phase.{Phase}
use Rattle.machine.specs.declared.ReplayMachine.{ReplayMachine}
use Rattle.machine.specs.Divergences.{divergence_number, divergence_named}
use Rattle.core_exports.specs.declared.IdsNumbers.{IdsNumbers}
use Rattle.core_exports.specs.declared.CursorNumbers.{CursorNumbers}
use Rattle.core_exports.specs.Given.{ids_named, error_named, halted_by, state_named, cursor_by, cursor_named}
use Rattle.core_exports.specs.Given.{diverged_by, phase_named, machine_with, machine_named}
use Rattle.core_exports.specs.Numbers.{ids_numbers_for, ids_numbers, cursor_numbers_for, cursor_numbers}
use Rattle.core_exports.specs.MachineNumbers.{machine_numbers_for, machine_numbers}
use Rattle.core_exports.proofs.Arms.{by_arms}

offer_back : (run : RunId) (next : Option EffectSeq) → ids_named (ids_numbers_for run.0 next) ≡ Some (record { run = run; next = next })
offer_back run (Some seq) = refl
offer_back run None = refl

pub ids_back : (ids : EffectIdAllocator) → ids_named (ids_numbers ids) ≡ Some ids
ids_back ids = offer_back ids.run ids.next

error_back : (x : KernelError) → error_named (error_number x) ≡ Some x
error_back KernelError.IdExhausted = refl
error_back KernelError.NondeterministicWorkflow = refl
error_back KernelError.IncompatibleWorkflow = refl
error_back KernelError.MalformedHistory = refl
error_back KernelError.NoPersistentClock = refl
error_back KernelError.ClockWentBackwards = refl

state_back : (ids : IdsNumbers) (failed : ℕ) (state : State) → state_named (cursor_numbers_for ids failed state) ≡ Some state
state_back ids failed State.BeforeRun = refl
state_back ids failed State.Replaying = refl
state_back ids failed (State.AwaitingOutcome scheduled) = refl
state_back ids failed (State.AwaitingTimer armed) = refl
state_back ids failed State.RunCompleted = refl
state_back ids failed State.RunFailed = refl
state_back ids failed (State.Halted x) = ap halted_by (error_back x)

-- the allocator and the count are told beside every position
beside : (ids : IdsNumbers) (failed : ℕ) (state : State) →
    ((cursor_numbers_for ids failed state).ids ≡ ids) × ((cursor_numbers_for ids failed state).failed ≡ failed)
beside ids failed State.BeforeRun = (refl, refl)
beside ids failed State.Replaying = (refl, refl)
beside ids failed (State.AwaitingOutcome scheduled) = (refl, refl)
beside ids failed (State.AwaitingTimer armed) = (refl, refl)
beside ids failed State.RunCompleted = (refl, refl)
beside ids failed State.RunFailed = (refl, refl)
beside ids failed (State.Halted x) = (refl, refl)

pub cursor_back : (c : ReplayCursor) → cursor_named (cursor_numbers c) ≡ Some c
cursor_back c =
    let told = beside (ids_numbers c.ids) c.failed c.state in
    ap (λ (n : ℕ). cursor_by n (ids_named (cursor_numbers c).ids) (state_named (cursor_numbers c))) told.1 ∙
    sym
    (by_arms (cursor_by c.failed) (ap ids_named told.0 ∙ ids_back c.ids) (state_back (ids_numbers c.ids) c.failed c.state) refl)

divergence_back : (d : Divergence) → divergence_named (divergence_number d) ≡ Some d
divergence_back Divergence.Sequence = refl
divergence_back Divergence.Kind = refl
divergence_back Divergence.Length = refl
divergence_back Divergence.Crc = refl
divergence_back Divergence.BoundaryKind = refl
divergence_back Divergence.Gate = refl
divergence_back Divergence.Deadline = refl
divergence_back Divergence.Boundary = refl

phase_back : (c : CursorNumbers) (phase : Phase) →
    phase_named (machine_numbers_for c phase).phase (machine_numbers_for c phase).divergence ≡ Some phase
phase_back c Phase.Settled = refl
phase_back c Phase.AwaitingOutcome = refl
phase_back c Phase.AwaitingFiring = refl
phase_back c (Phase.Diverged d) = ap diverged_by (divergence_back d)

under : (c : CursorNumbers) (phase : Phase) → (machine_numbers_for c phase).cursor ≡ c
under c Phase.Settled = refl
under c Phase.AwaitingOutcome = refl
under c Phase.AwaitingFiring = refl
under c (Phase.Diverged d) = refl

pub machine_back : (m : ReplayMachine) → machine_named (machine_numbers m) ≡ Some m
machine_back m =
    sym
    (by_arms machine_with (ap cursor_named (under (cursor_numbers m.cursor) m.phase) ∙ cursor_back m.cursor)
    (phase_back (cursor_numbers m.cursor) m.phase) refl)
