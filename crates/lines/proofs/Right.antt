-- That the definitions say what 01 says: a number's digits give the number, with no zero before them, and 01's own line.
use Prim.Native.Nat.{ℕ, zero, suc, ◌+◌, ◌-◌, ◌*◌, ◌/◌, ◌%◌, ◌<◌}
use mathlib.Core.Path.{◌≡◌, refl, ap, ◌∙◌}
use mathlib.Core.List.{List, [], ◌∷◌, ◌++◌}
use mathlib.Core.Logic.{by_cases}
use native.Mathlib.Decide.{dec_lt}
use native.Mathlib.Omega.{arith}
use lib.ListN.{get_or}
use Rattle.endings.specs.declared.Ending.TheVariants as Ending
use Rattle.lines.specs.Line.{decimal, line_of}
use Rattle.lines.proofs.Decimal.{decimal_last, decimal_more}
use Rattle.histories.specs.Answers.{answer_no, answer_ok}

-- what decimal digits after a number say
abbrev value : ℕ → List ℕ → ℕ
value n [] = n
value n (d ∷ ds) = value (10 * n + (d - 48)) ds

value_append : (n : ℕ) (xs ys : List ℕ) → value n (xs ++ ys) ≡ value (value n xs) ys
value_append n [] ys = refl
value_append n (x ∷ xs) ys = value_append (10 * n + (x - 48)) xs ys

-- by a bound on the number
value_below : (k n : ℕ) → n < k → value 0 (decimal n) ≡ n
value_below zero n h = absurd (omega arith)
value_below (suc k) n h =
    by_cases (dec_lt n 10) (λ s. ap (value 0) (decimal_last n s) ∙ omega arith)
    (λ g. ap (value 0) (decimal_more n (omega arith)) ∙ value_append 0 (decimal (n / 10)) ((48 + n % 10) ∷ [])
    ∙ omega (arith, value_below k (n / 10) (omega arith)))

pub decimal_value : (n : ℕ) → value 0 (decimal n) ≡ n
decimal_value n = value_below (suc n) n (omega arith)

first_append : (xs ys : List ℕ) → 48 < get_or xs 0 0 → 48 < get_or (xs ++ ys) 0 0
first_append [] ys h = absurd (omega arith)
first_append (x ∷ xs) ys h = h

first_below : (k n : ℕ) → 0 < n → n < k → 48 < get_or (decimal n) 0 0
first_below zero n p h = absurd (omega arith)
first_below (suc k) n p h =
    by_cases (dec_lt n 10) (λ s. rw (decimal_last n s) (omega arith))
    (λ g. rw (decimal_more n (omega arith)) (first_append (decimal (n / 10)) ((48 + n % 10) ∷ []) (first_below k (n / 10) (omega arith) (omega arith))))

-- the first digit of a number above 0 is not 0
pub decimal_first : (n : ℕ) → 0 < n → 48 < get_or (decimal n) 0 0
decimal_first n p = first_below (suc n) n p (omega arith)

pub decimal_0 : decimal 0 ≡ 48 ∷ []
decimal_0 = decimal_last 0 (omega arith)

-- 02: "01's printed example becomes `ok open 0 2 3 0`"
pub output : line_of (answer_ok Ending.Open 0 2 3 0) ≡
    111 ∷ 107 ∷ 32 ∷ 111 ∷ 112 ∷ 101 ∷ 110 ∷ 32 ∷ 48 ∷ 32 ∷ 50 ∷ 32 ∷ 51 ∷ 32 ∷ 48 ∷ 10 ∷ []
unfolding line_of decimal
output = refl

-- `no 22 10 1 11`
pub no_output : line_of (answer_no 22 10 1 11) ≡ 110 ∷ 111 ∷ 32 ∷ 50 ∷ 50 ∷ 32 ∷ 49 ∷ 48 ∷ 32 ∷ 49 ∷ 32 ∷ 49 ∷ 49 ∷ 10 ∷ []
unfolding line_of decimal
no_output = refl
