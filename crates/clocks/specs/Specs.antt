-- Clock kinds, specs and capabilities: 01, "Modules", 2, and "Timers alone".
use Rattle.std.specs.Prelude.{ℕ, min, Bool, true, cond, eqb, Option, Some, None}
use Rattle.ids.specs.declared.ClockKind.{ClockKind}
use Rattle.clocks.specs.declared.TimerSpec.{TimerSpec}
use Rattle.clocks.specs.declared.ClockCapability.{ClockCapability}

-- "Clock kind 1 is `AfterBoot`, 2 `AtPersistentTime`"
abbrev pub spec_clock : TimerSpec → ClockKind
spec_clock (TimerSpec.AfterBoot ticks) = record { 0 = 1 }
spec_clock (TimerSpec.AtPersistentTime instant) = record { 0 = 2 }

abbrev pub spec_deadline : TimerSpec → ℕ
spec_deadline (TimerSpec.AfterBoot ticks) = ticks
spec_deadline (TimerSpec.AtPersistentTime instant) = instant

-- "others have no spec"
abbrev pub recorded_spec : ClockKind → ℕ → Option TimerSpec
recorded_spec kind deadline =
    cond (eqb kind.0 1) (Some (TimerSpec.AfterBoot deadline))
    (cond (eqb kind.0 2) (Some (TimerSpec.AtPersistentTime deadline)) None)

-- "`rearmed_at`: the smaller of recorded and now for `AfterBoot`, the recorded one for the other"
abbrev pub rearmed_at : TimerSpec → ℕ → ℕ → ℕ
rearmed_at (TimerSpec.AfterBoot ticks) recorded now = min recorded now
rearmed_at (TimerSpec.AtPersistentTime instant) recorded now = recorded

-- 01: "the capability (0 `BootOnly`, 1 `Persistent`)"; no other number names one
abbrev pub capability_of : ℕ → Option ClockCapability
capability_of n =
    cond (eqb n 0) (Some ClockCapability.BootOnly)
    (cond (eqb n 1) (Some ClockCapability.Persistent) None)

-- "`BootOnly` admits only kind 1, `Persistent` both"
abbrev pub admits_clock : ClockCapability → ClockKind → Bool
admits_clock ClockCapability.BootOnly kind = eqb kind.0 1
admits_clock ClockCapability.Persistent kind = true
