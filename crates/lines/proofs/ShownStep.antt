-- The step that the words of 45 show is the one at which the run was completed (`shown_step`); the gate that they show where one is
-- due is the plan's (`shown_gate`).
use Prim.Native.Nat.{ℕ, suc, ◌+◌, ◌-◌}
use mathlib.Core.Path.{◌≡◌, refl, sym, ap, subst, ◌∙◌}
use mathlib.Core.List.{List, [], ◌∷◌, ◌++◌, append_assoc}
use mathlib.Core.Bool.{cond}
use native.Mathlib.Omega.{arith}
use lib.Dec.{eqb}
use borrow.Author.Tests.{ne_eqb}
use lib.ListN.{length, take, drop, length-append, length-drop, take-append-drop}
use lib.Seq.{length-take-le}
use Rattle.ids.specs.declared.GateId.{GateId}
use Rattle.clocks.specs.declared.ClockCapability.{ClockCapability}
use Rattle.records.specs.declared.RecordRef.{RecordRef}
use Rattle.files.specs.declared.Format.TheVariants as Format
use Rattle.files.specs.declared.Entry.{Entry}
use Rattle.files.specs.declared.PlanStep.{PlanStep}
use Rattle.files.specs.Contents.{records_of, steps_of}
use Rattle.files.specs.Encoding.{record_entry, step_entry}
use Rattle.files.specs.Kinds.{entry_in}
use Rattle.files.specs.Standing.{Whole}
use Rattle.files.proofs.Numbered.{record_at, step_at}
use Rattle.endings.specs.declared.Ending.TheVariants as Ending
use Rattle.histories.specs.Histories.{Starts, Boundaries}
use Rattle.histories.specs.Histories as H
use Rattle.histories.specs.Promise.{AtGate, TooSoon}
use Rattle.histories.specs.Promise as P
use Rattle.histories.specs.StepAfter.{step_after}
use Rattle.histories.proofs.Soon.{too_soon_step, too_soon_within}
use Rattle.lines.specs.Telling.{entry_before, step_next, telling_of}
use Rattle.histories.specs.Answers.{answer_no, answer_ok}

-- a run that was completed at step 0 has its start alone before
no_boundary : {capability : ClockCapability} {i : ℕ} {rs : List RecordRef} → Boundaries capability i [] rs → rs ≡ []
no_boundary H.none = refl

start_alone : {capability : ClockCapability} {plan : List PlanStep} {records : List RecordRef} {p : ℕ} → TooSoon capability plan records p 0 →
    (before : List RecordRef) (x : RecordRef) → take p records ≡ before ++ (x ∷ []) → Starts x
start_alone (P.completed {start} h starts b front_is rest_is) before x q =
    by_front before (sym q ∙ front_is ∙ ap (λ (l : List RecordRef). start ∷ l) (no_boundary b))
  where
    by_front : (before : List RecordRef) → before ++ (x ∷ []) ≡ start ∷ [] → Starts x
    by_front [] e = let same : start ≡ x = cc in subst Starts same starts
    by_front (y ∷ ys) e = absurd (omega (arith, ap (λ (l : List RecordRef). length l) e, length-append ys (x ∷ [])))

after_start : {x : RecordRef} → Starts x → (k : ℕ) → step_after x ≡ k → step_next (record_entry x) ≡ k
after_start H.started k h = h

-- the step after a record is told by its entry; a run's end, which closes no step, comes before none
by_entry : (x : RecordRef) (k : ℕ) → step_after x ≡ k → (k ≡ 0 → Starts x) → step_next (record_entry x) ≡ k
by_entry (RecordRef.RunStarted kind version body) k h first = h
by_entry (RecordRef.EffectScheduled seq kind len crc) k h first = h
by_entry (RecordRef.EffectCompleted seq body) k h first = h
by_entry (RecordRef.EffectFailed seq body) k h first = h
by_entry (RecordRef.TimerScheduled seq clock deadline armed) k h first = h
by_entry (RecordRef.TimerFired seq) k h first = h
by_entry (RecordRef.RunCompleted body) k h first = after_start (first (sym h)) k h
by_entry (RecordRef.RunFailed body) k h first = after_start (first (sym h)) k h
by_entry (RecordRef.VersionMarker seq gate version) k h first = h

-- the entry before a place, by how many come before it
entry_before_lem : (journal : List ℕ) (place n : ℕ) → place ≡ n + 1 → entry_before journal place ≡ entry_in journal n
entry_before_lem journal place n e = rw (ne_eqb place 0 (λ (z : place ≡ 0). omega arith)) (ap (entry_in journal) (one_less place n e))
  where
    one_less : (a b : ℕ) → a ≡ b + 1 → a - 1 ≡ b
    one_less a b e = omega arith

pub shown_step : (journal plan : List ℕ) → Whole Format.Journal journal → {capability : ClockCapability} {steps : List PlanStep} {p k : ℕ} →
    TooSoon capability steps (records_of journal) p k → (divergence calls : ℕ) →
    (telling_of journal plan (answer_no 45 p divergence calls)).number ≡ k
shown_step journal plan whole {capability} {steps} {p} {k} soon divergence calls =
    let records = records_of journal in
    let last = too_soon_step soon in
    let before = last.0 in
    let x = last.1.0 in
    let front_is = last.1.1.0 in
    let split : records ≡ before ++ (x ∷ drop p records) =
    sym (take-append-drop p records) ∙ ap (λ (l : List RecordRef). l ++ drop p records) front_is ∙ append_assoc before (x ∷ []) (drop p records) in
    let long = sym (length-take-le p records (omega (arith, too_soon_within soon))) ∙ ap (λ (l : List RecordRef). length l) front_is in
    let place : p ≡ length before + 1 = omega (arith, long, length-append before (x ∷ [])) in
    let here = entry_before_lem journal p (length before) place ∙ record_at journal whole before x (drop p records) split in
    ap step_next here ∙ by_entry x k last.1.1.1 (λ z. start_alone (subst (TooSoon capability steps records p) z soon) before x front_is)

pub shown_gate : (journal plan : List ℕ) → Whole Format.Plan plan → {capability : ClockCapability} (k : ℕ) {version : ℕ} {g : GateId}
    {records : List RecordRef} → AtGate capability (steps_of plan) k g version records → (count calls failed : ℕ) →
    (telling_of journal plan (answer_ok Ending.Due k count calls failed)).number ≡ g.0
shown_gate journal plan whole k {version} {g} (P.at_gate {later = later} begun b is) count calls failed =
    let steps = steps_of plan in
    let split : steps ≡ take k steps ++ (PlanStep.Gate g version ∷ later) =
    sym (take-append-drop k steps) ∙ ap (λ (l : List PlanStep). take k steps ++ l) is in
    let left : length steps - k ≡ suc (length later) = sym (length-drop k steps) ∙ ap (λ (l : List PlanStep). length l) is in
    let long = length-take-le k steps (omega (arith, left)) in
    let there = step_at plan whole (take k steps) (PlanStep.Gate g version) later split in
    let here : entry_in plan k ≡ step_entry (PlanStep.Gate g version) = subst (λ (n : ℕ). entry_in plan n ≡ step_entry (PlanStep.Gate g version)) long there in
    ap (λ (e : Entry). cond (eqb e.kind 9) e.a k) here
