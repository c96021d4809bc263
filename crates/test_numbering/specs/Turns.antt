-- What the walk's own functions ask of one another; a reader of `walk` need not believe it.
use Rattle.std.specs.Prelude.{ℕ, Bool, false, ◌&&◌, eqb, Result, Ok, Err}
use Rattle.errors.specs.declared.KernelError.{KernelError}
use Rattle.ids.specs.declared.EffectIdAllocator.{EffectIdAllocator}
use Rattle.cursor.specs.declared.State.TheVariants as State
use Rattle.cursor.specs.declared.Step.{Step}
use Rattle.cursor.specs.Readers.{cursor_at}
use Rattle.machine.specs.declared.Phase.{Phase}
use Rattle.machine.specs.declared.ReplayMachine.{ReplayMachine}
use Rattle.test_numbering.specs.declared.Counted.{Counted}
use Rattle.test_numbering.specs.Walk.{after_markers}

-- all numbers but the last are spent
abbrev pub to_last_rule : Counted
to_last_rule = record { machine = after_markers 4294967295; markers = 4294967295 }

-- a machine that replays and has counted no failed step
abbrev pub replaying_with : EffectIdAllocator → Phase → ReplayMachine
replaying_with ids phase = record { cursor = cursor_at ids State.Replaying; phase = phase }

-- whether the answer is the step of the marker with this number
abbrev pub marks_in : ℕ → Step → Bool
marks_in n (Step.RunStarted kind version body) = false
marks_in n (Step.EffectScheduled p) = false
marks_in n (Step.EffectCompleted id body) = false
marks_in n (Step.EffectFailed id body) = false
marks_in n (Step.TimerScheduled p) = false
marks_in n (Step.TimerFired id) = false
marks_in n (Step.RunCompleted body) = false
marks_in n (Step.RunFailed body) = false
marks_in n (Step.VersionMarker id gate version) =
    eqb id.run.0 7 && (eqb id.seq.0 n && (eqb gate.0 1 && eqb version 1))

abbrev pub marks_of : ℕ → Result Step KernelError → Bool
marks_of n (Ok step) = marks_in n step
marks_of n (Err x) = false
