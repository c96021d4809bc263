-- The answers of this crate in numbers: a refusal has its own number, and elapsed is 0, what remains 1 with the ticks.
use Rattle.std.specs.Prelude.{ℕ, Option, Result}
use Rattle.errors.specs.declared.KernelError.{KernelError}
use Rattle.errors.specs.declared.Told.{Told}
use Rattle.errors.specs.Told.{told0, told1, told2, told4, nothing_told, option_told, result_told}
use Rattle.clocks.specs.declared.TimerSpec.{TimerSpec}
use Rattle.clocks.specs.declared.Timer.{Timer}
use Rattle.clocks.specs.declared.Deadline.{Deadline}
use Rattle.clocks.specs.Specs.{spec_clock, spec_deadline}

abbrev pub timer_spec_told : ℕ → TimerSpec → Told
timer_spec_told n spec = told2 n (spec_clock spec).0 (spec_deadline spec)

abbrev pub timer_spec_option_told : Option TimerSpec → Told
timer_spec_option_told = option_told timer_spec_told

abbrev pub admits_result_told : Result (Unit {0}) KernelError → Told
admits_result_told = result_told nothing_told

abbrev pub timer_told : Timer → Told
timer_told timer = told4 0 (spec_clock timer.spec).0 (spec_deadline timer.spec) timer.armed_at 0

abbrev pub timer_result_told : Result Timer KernelError → Told
timer_result_told = result_told timer_told

abbrev pub deadline_told : Deadline → Told
deadline_told Deadline.Elapsed = told0 0
deadline_told (Deadline.Remaining ticks) = told1 1 ticks

abbrev pub deadline_result_told : Result Deadline KernelError → Told
deadline_result_told = result_told deadline_told
