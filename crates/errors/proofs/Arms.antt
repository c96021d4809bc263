-- How a rule by cases is met in an arm of a `match`.
use mathlib.Core.Path.{◌≡◌, ◌∙◌, sym, ap}

-- where the matched value a is known to be a', what equals the rule at a' equals it at a
pub by_arm : {A B : Type 0} (f : A → B) {a a' : A} {r : B} → a ≡ a' → r ≡ f a' → r ≡ f a
by_arm f e h = h ∙ sym (ap f e)

-- the same where the matched value v is the answer of a call, which is a by its contract
pub by_call : {A B : Type 0} (f : A → B) {a v a' : A} {r : B} → v ≡ a → v ≡ a' → r ≡ f a' → r ≡ f a
by_call f is e h = by_arm f (sym is ∙ e) h
