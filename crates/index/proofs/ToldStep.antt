-- Where the verdict is 45, the words show the step at which the run was completed, as the promise of demand 3 says it (`TooSoon`).
use Rattle.histories.specs.declared.Refused.{Refused}
use Rattle.std.specs.Prelude.{Result, Ok, Err}
use Prim.Native.Nat.{ℕ}
use mathlib.Core.Path.{◌≡◌, refl, ap, sym, subst}
use mathlib.Core.List.{List}
use lib.Dec.{T}
use Rattle.clocks.specs.declared.ClockCapability.{ClockCapability}
use Rattle.records.specs.Records.{among}
use Rattle.files.specs.declared.Format.TheVariants as Format
use Rattle.files.specs.Reading.{reading_numbers, read_rule}
use Rattle.files.specs.Contents.{records_of, steps_of}
use Rattle.files.proofs.Laws.{whole, refused_reading_lem}
use Rattle.histories.specs.Answers.{Answer, answer_no}
use Rattle.histories.specs.Promise.{TooSoon}
use Rattle.lines.specs.Telling.{telling_of}
use Rattle.lines.proofs.ShownStep.{shown_step}
use Rattle.resume.specs.EndResult.{KeptBy}
use Rattle.resume.specs.Verdict.{verdict_rule}
use Rattle.resume.proofs.Keeps.{keeps}
use Rattle.files.specs.declared.FileHead.{FileHead}
use Rattle.files.specs.declared.Refusal.{Refusal}

-- the run was completed at some step, and that step is shown
abbrev pub ToldStep : List ℕ → List ℕ → ℕ → ℕ → ℕ → Type 0
ToldStep j p place divergence calls =
    (capability : ClockCapability) × ((k : ℕ) × (TooSoon capability (steps_of p) (records_of j) place k ×
    ((telling_of j p (answer_no 45 place divergence calls)).number ≡ k)))

same_refusal : {r s : Refused} → ◌≡◌ {A = Answer} (Err r) (Err s) → r ≡ s
same_refusal e = cc

same_number : {n m a b c d e f : ℕ} → answer_no n a b c ≡ answer_no m d e f → n ≡ m
same_number e = ap (λ (r : Refused). r.number) (same_refusal e)

-- 45 is no number of reading
not_read : {n place a b c : ℕ} → answer_no 45 place a b ≡ answer_no n c 0 0 → T (among reading_numbers n) → ⊥
not_read e listed = subst (λ (m : ℕ). T (among reading_numbers m)) (sym (same_number e)) listed

module _ (j p : List ℕ) (place divergence calls : ℕ) where
  by_readings : (a b : Result FileHead Refusal) → read_rule Format.Journal j ≡ a → read_rule Format.Plan p ≡ b →
      KeptBy a b j p (answer_no 45 place divergence calls) → ToldStep j p place divergence calls
  by_readings (Err refusal) b ea eb k = absurd (not_read k (refused_reading_lem Format.Journal j ea))
  by_readings (Ok journal) (Err refusal) ea eb k = absurd (not_read k (refused_reading_lem Format.Plan p eb))
  by_readings (Ok journal) (Ok plan) ea eb k =
      let soon = k.1.1.counts.too_soon.0 refl in
      (k.0, (soon.0, (soon.1, shown_step j p (whole Format.Journal j ea).0 soon.1 divergence calls)))

  pub told_step : verdict_rule j p ≡ answer_no 45 place divergence calls → ToldStep j p place divergence calls
  told_step e = by_readings (read_rule Format.Journal j) (read_rule Format.Plan p) refl refl (keeps j p _ (sym e)).promise
