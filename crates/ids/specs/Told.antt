-- The answers of this crate in numbers: 0 for none and 1 for some, then the value; a refusal has its own number.
use Rattle.std.specs.Prelude.{ℕ, Option, Result}
use Rattle.errors.specs.declared.KernelError.{KernelError}
use Rattle.errors.specs.declared.Told.{Told}
use Rattle.errors.specs.Told.{told1, told2, option_told, result_told}
use Rattle.ids.specs.declared.RunId.{RunId}
use Rattle.ids.specs.declared.EffectSeq.{EffectSeq}
use Rattle.ids.specs.declared.EffectId.{EffectId}

abbrev pub run_told : ℕ → RunId → Told
run_told n run = told1 n run.0

abbrev pub run_option_told : Option RunId → Told
run_option_told = option_told run_told

abbrev pub seq_told : ℕ → EffectSeq → Told
seq_told n seq = told1 n seq.0

abbrev pub seq_option_told : Option EffectSeq → Told
seq_option_told = option_told seq_told

abbrev pub effect_id_told : EffectId → Told
effect_id_told id = told2 0 id.run.0 id.seq.0

abbrev pub effect_id_result_told : Result EffectId KernelError → Told
effect_id_result_told = result_told effect_id_told
