-- How a rule by cases over two values is met in an arm of two matches.
use mathlib.Core.Path.{◌≡◌, ◌∙◌, sym, ap}

-- where a is known to be a' and b to be b', what equals the rule at those equals it at a and b
pub by_arms : {A B C : Type 0} (f : A → B → C) {a a' : A} {b b' : B} {r : C} → a ≡ a' → b ≡ b' → r ≡ f a' b' → r ≡ f a b
by_arms {A} {B} {C} f {a} {a'} {b} {b'} e d h = h ∙ sym (ap (λ (y : B). f a' y) d) ∙ sym (ap (λ (x : A). f x b) e)
