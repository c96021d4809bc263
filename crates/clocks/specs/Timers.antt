-- Timers: 01, "Timers alone".
use Rattle.std.specs.Prelude.{ℕ, ◌-◌, cond, ltb, leb, Result, Ok, Err}
use Rattle.errors.specs.declared.KernelError.{KernelError}
use Rattle.errors.specs.Errors.{error}
use Rattle.clocks.specs.declared.TimerSpec.{TimerSpec}
use Rattle.clocks.specs.declared.ClockCapability.{ClockCapability}
use Rattle.clocks.specs.declared.Timer.{Timer}
use Rattle.clocks.specs.declared.Deadline.{Deadline}
use Rattle.clocks.specs.Specs.{spec_clock, spec_deadline, admits_clock}

-- a spec whose clock the board does not have is 25
abbrev pub admission : ClockCapability → TimerSpec → Result (Unit {0}) KernelError
admission capability spec = cond (admits_clock capability (spec_clock spec)) (Ok tt) (Err (error 25))

-- a timer for that spec and reading, or the refusal
abbrev pub armed_where : TimerSpec → ℕ → Result (Unit {0}) KernelError → Result Timer KernelError
armed_where spec now (Ok tt) = Ok (record { spec = spec; armed_at = now })
armed_where spec now (Err x) = Err x

-- "`Timer::arm` refuses 25"
abbrev pub armed : TimerSpec → ClockCapability → ℕ → Result Timer KernelError
armed spec capability now = armed_where spec now (admission capability spec)

-- elapsed where what was reached is at least the goal; "else what is lacking remains"
abbrev pub lacking_of : ℕ → ℕ → Deadline
lacking_of goal reached = cond (leb goal reached) Deadline.Elapsed (Deadline.Remaining (goal - reached))

-- what is held against the deadline: "reading less armed time" for `AfterBoot`, "the reading" for the other
abbrev pub reached_by : TimerSpec → ℕ → ℕ → ℕ
reached_by (TimerSpec.AfterBoot ticks) armed_at reading = reading - armed_at
reached_by (TimerSpec.AtPersistentTime instant) armed_at reading = reading

-- "a reading below the armed time is 26 for both specs"
abbrev pub evaluation : Timer → ℕ → Result Deadline KernelError
evaluation timer reading =
    cond (ltb reading timer.armed_at) (Err (error 26))
    (Ok (lacking_of (spec_deadline timer.spec) (reached_by timer.spec timer.armed_at reading)))
