-- Rearming after several reboots: document 02, "Rearming law", for either spec and all numbers.
use Rattle.std.specs.Prelude.{ℕ, min, ◌≡◌, List, [], ◌∷◌}
use Rattle.clocks.specs.declared.TimerSpec.{TimerSpec}
use Rattle.clocks.specs.Specs.{rearmed_at}

-- rearmed at each of these readings in turn; with no reading, the recorded one
abbrev pub rearmed_over : TimerSpec → ℕ → List ℕ → ℕ
rearmed_over spec recorded [] = recorded
rearmed_over spec recorded (now ∷ later) = rearmed_over spec (rearmed_at spec recorded now) later

-- the smallest of a reading and those after it
abbrev pub smallest : ℕ → List ℕ → ℕ
smallest now [] = now
smallest now (next ∷ later) = min now (smallest next later)

-- the same readings in another order
pub data Reordered : List ℕ → List ℕ → Type 0 where
  same : {xs : List ℕ} → Reordered xs xs
  swapped : {x y : ℕ} {xs : List ℕ} → Reordered (x ∷ (y ∷ xs)) (y ∷ (x ∷ xs))
  first : {x : ℕ} {xs ys : List ℕ} → Reordered xs ys → Reordered (x ∷ xs) (x ∷ ys)
  twice : {xs ys zs : List ℕ} → Reordered xs ys → Reordered ys zs → Reordered xs zs

-- What holds of r, the answer of rearming a recorded reading at `now`.
pub record Rearmed (spec : TimerSpec) (recorded now r : ℕ) : Type 0 where
  -- "rearming at a and then at b must equal rearming at b and then at a"
  pub either_first : (b : ℕ) → rearmed_at spec r b ≡ rearmed_at spec (rearmed_at spec recorded b) now
  -- "equal rearming just one time at the smaller of the two"
  pub at_smaller : (b : ℕ) → rearmed_at spec r b ≡ rearmed_at spec recorded (min now b)
  -- "doing the same rearm again must change nothing"
  pub again : rearmed_at spec r now ≡ r
  -- any number of later readings: as rearming just one time at the smallest of all
  pub at_smallest : (later : List ℕ) → rearmed_over spec r later ≡ rearmed_at spec recorded (smallest now later)
  -- and in any order
  pub any_order : (later readings : List ℕ) → Reordered (now ∷ later) readings →
      rearmed_over spec r later ≡ rearmed_over spec recorded readings
