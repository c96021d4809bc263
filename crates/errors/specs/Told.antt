-- An answer in numbers.
use Rattle.std.specs.Prelude.{ℕ, Option, Some, None, Result, Ok, Err}
use Rattle.errors.specs.declared.KernelError.{KernelError}
use Rattle.errors.specs.declared.Told.{Told}
use Rattle.errors.specs.Errors.{error_number}

-- an answer with the number n and up to five values
abbrev pub told5 : ℕ → ℕ → ℕ → ℕ → ℕ → ℕ → Told
told5 n a b c d e = record { number = n; a = a; b = b; c = c; d = d; e = e }

abbrev pub told4 : ℕ → ℕ → ℕ → ℕ → ℕ → Told
told4 n a b c d = told5 n a b c d 0

abbrev pub told2 : ℕ → ℕ → ℕ → Told
told2 n a b = told4 n a b 0 0

abbrev pub told1 : ℕ → ℕ → Told
told1 n a = told2 n a 0

abbrev pub told0 : ℕ → Told
told0 n = told1 n 0

-- a refusal has its number and no values
abbrev pub error_told : KernelError → Told
error_told x = told0 (error_number x)

-- a call that answers nothing but that it was allowed
abbrev pub nothing_told : Unit {0} → Told
nothing_told x = told0 0

-- 0 for none and 1 for some, then the value
abbrev pub option_told : {A : Type 0} → (ℕ → A → Told) → Option A → Told
option_told value (Some x) = value 1 x
option_told value None = told0 0

-- what was answered, or the refusal
abbrev pub result_told : {A : Type 0} → (A → Told) → Result A KernelError → Told
result_told answer (Ok x) = answer x
result_told answer (Err x) = error_told x
