-- The refusals and their numbers: 01, "Refused inputs".
use Rattle.std.specs.Prelude.{ℕ, ◌-◌, List, [], ◌∷◌, get_or}
use Rattle.errors.specs.declared.KernelError.{KernelError}

-- the number of each refusal
abbrev pub error_number : KernelError → ℕ
error_number KernelError.IdExhausted = 21
error_number KernelError.NondeterministicWorkflow = 22
error_number KernelError.IncompatibleWorkflow = 23
error_number KernelError.MalformedHistory = 24
error_number KernelError.NoPersistentClock = 25
error_number KernelError.ClockWentBackwards = 26

-- the same list read from the numbers: 21 is the first
abbrev pub errors : List KernelError
errors =
    KernelError.IdExhausted ∷
    KernelError.NondeterministicWorkflow ∷
    KernelError.IncompatibleWorkflow ∷
    KernelError.MalformedHistory ∷
    KernelError.NoPersistentClock ∷
    KernelError.ClockWentBackwards ∷
    []

-- the refusal with the number n, for n from 21 to 26: the rules name refusals by it
abbrev pub error : ℕ → KernelError
error n = get_or errors (n - 21) KernelError.IdExhausted
