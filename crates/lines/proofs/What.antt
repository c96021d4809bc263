-- The column says what step k of a readable plan is, k the index of the entry that it looks at.
use Prim.Native.Nat.{ℕ}
use mathlib.Core.Path.{◌≡◌, refl, ap, ◌∙◌}
use mathlib.Core.List.{List, ◌∷◌, ◌++◌}
use lib.ListN.{length}
use Rattle.clocks.specs.declared.TimerSpec.TheVariants as TimerSpec
use Rattle.endings.specs.Endings.{ascii}
use Rattle.files.specs.declared.Format.TheVariants as Format
use Rattle.files.specs.declared.PlanStep.{PlanStep}
use Rattle.files.specs.declared.StepRequest.TheVariants as StepRequest
use Rattle.files.specs.Contents.{steps_of}
use Rattle.files.specs.Encoding.{step_entry}
use Rattle.files.specs.Kinds.{entry_in}
use Rattle.files.specs.Standing.{Whole}
use Rattle.files.proofs.Numbered.{step_at}
use Rattle.lines.specs.Line.{decimal}
use Rattle.lines.specs.Words.{filled}
use Rattle.lines.specs.Columns.{entry_text}

abbrev pub step_text : PlanStep → List ℕ
step_text (PlanStep.Request (StepRequest.Effect kind length crc input)) = filled kind.0 (ascii "effect #")
step_text (PlanStep.Request (StepRequest.Timer (TimerSpec.AfterBoot ticks))) = filled ticks (ascii "timer boot #")
step_text (PlanStep.Request (StepRequest.Timer (TimerSpec.AtPersistentTime instant))) = filled instant (ascii "timer persistent #")
step_text (PlanStep.Gate gate version) = filled gate.0 (ascii "gate #") ++ (ascii " version " ++ decimal version)

told : (x : PlanStep) → entry_text (step_entry x) ≡ step_text x
told (PlanStep.Request (StepRequest.Effect kind length crc input)) = refl
told (PlanStep.Request (StepRequest.Timer (TimerSpec.AfterBoot ticks))) = refl
told (PlanStep.Request (StepRequest.Timer (TimerSpec.AtPersistentTime instant))) = refl
told (PlanStep.Gate gate version) = refl

pub what_step : (p : List ℕ) → Whole Format.Plan p → (before : List PlanStep) (x : PlanStep) (after : List PlanStep) →
    steps_of p ≡ before ++ (x ∷ after) → entry_text (entry_in p (length before)) ≡ step_text x
what_step p w before x after q = ap entry_text (step_at p w before x after q) ∙ told x
