-- The rearming law: a boot timer keeps the smallest reading, which no order changes; a persistent one keeps the recorded one.
use Prim.Native.Nat.{ℕ, min}
use mathlib.Core.Path.{◌≡◌, refl, sym, ap, subst, ◌∙◌}
use mathlib.Core.List.{List, [], ◌∷◌}
use native.Mathlib.Nat.{le_refl, le_trans, le_antisymm, min-le_left, min-le_right, le-min, min_comm, min-eq_left}
use Rattle.clocks.specs.declared.TimerSpec.{TimerSpec}
use Rattle.clocks.specs.Specs.{rearmed_at}
use Rattle.clocks.specs.Rearming.{rearmed_over, smallest, Reordered, Rearmed}
use Rattle.clocks.specs.Rearming as R

min_assoc : (a b c : ℕ) → min (min a b) c ≡ min a (min b c)
min_assoc a b c =
    let left = min-le_left (min a b) c in
    let inner = min-le_right b c in
    le_antisymm
    (le-min (le_trans left (min-le_left a b)) (le-min (le_trans left (min-le_right a b)) (min-le_right (min a b) c)))
    (le-min (le-min (min-le_left a (min b c)) (le_trans (min-le_right a (min b c)) (min-le_left b c)))
    (le_trans (min-le_right a (min b c)) inner))

-- The three equations, for either spec.

pub smaller : (spec : TimerSpec) (r a b : ℕ) → rearmed_at spec (rearmed_at spec r a) b ≡ rearmed_at spec r (min a b)
smaller (TimerSpec.AfterBoot ticks) r a b = min_assoc r a b
smaller (TimerSpec.AtPersistentTime instant) r a b = refl

pub exchanged : (spec : TimerSpec) (r a b : ℕ) → rearmed_at spec (rearmed_at spec r a) b ≡ rearmed_at spec (rearmed_at spec r b) a
exchanged spec r a b = smaller spec r a b ∙ (ap (rearmed_at spec r) (min_comm a b) ∙ sym (smaller spec r b a))

pub repeated : (spec : TimerSpec) (r a : ℕ) → rearmed_at spec (rearmed_at spec r a) a ≡ rearmed_at spec r a
repeated spec r a = smaller spec r a a ∙ ap (rearmed_at spec r) (min-eq_left (le_refl a))

-- Any number of readings.

over_smallest : (spec : TimerSpec) (r a : ℕ) (later : List ℕ) →
    rearmed_over spec (rearmed_at spec r a) later ≡ rearmed_at spec r (smallest a later)
over_smallest spec r a [] = refl
over_smallest spec r a (b ∷ later) = over_smallest spec (rearmed_at spec r a) b later ∙ smaller spec r a (smallest b later)

over_reordered : (spec : TimerSpec) {xs ys : List ℕ} → Reordered xs ys → (r : ℕ) → rearmed_over spec r xs ≡ rearmed_over spec r ys
over_reordered spec R.same r = refl
over_reordered spec (R.swapped {x} {y} {xs}) r = ap (λ (now : ℕ). rearmed_over spec now xs) (exchanged spec r x y)
over_reordered spec (R.first {x} o) r = over_reordered spec o (rearmed_at spec r x)
over_reordered spec (R.twice o p) r = over_reordered spec o r ∙ over_reordered spec p r

-- The law about the rule's own answer, and so about any answer that equals it.
pub rearmed_rule : (spec : TimerSpec) (recorded now : ℕ) → Rearmed spec recorded now (rearmed_at spec recorded now)
rearmed_rule spec recorded now = record {
  either_first = exchanged spec recorded now;
  at_smaller = smaller spec recorded now;
  again = repeated spec recorded now;
  at_smallest = over_smallest spec recorded now;
  any_order = λ later readings o. over_reordered spec o recorded;
}

pub rearmed_law : (spec : TimerSpec) (recorded now : ℕ) {r : ℕ} → r ≡ rearmed_at spec recorded now → Rearmed spec recorded now r
rearmed_law spec recorded now e = subst (Rearmed spec recorded now) (sym e) (rearmed_rule spec recorded now)
