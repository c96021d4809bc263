-- Laws of decimal digits: one digit more for a tenth, and 20 of them hold 64 bits.
use Prim.Native.Nat.{ℕ, zero, suc, ◌+◌, ◌^◌, ◌/◌, ◌%◌, ◌≤◌, ◌<◌}
use mathlib.Core.Path.{◌≡◌, ap, ◌∙◌}
use mathlib.Core.List.{List, [], ◌∷◌, ◌++◌}
use mathlib.Core.Logic.{by_cases}
use native.Mathlib.Nat.{mod-eq_of_lt}
use native.Mathlib.Decide.{dec_lt}
use native.Mathlib.Omega.{arith}
use borrow.Author.Tests.{lt-ltb, le-ltb}
use lib.ListN.{length, length-append}
use Rattle.lines.specs.Line.{digits, decimal}

-- any bound above the number serves
digits_enough : (a b n : ℕ) → n < a → n < b → digits a n ≡ digits b n
digits_enough zero b n h l = absurd (omega arith)
digits_enough (suc a) zero n h l = absurd (omega arith)
digits_enough (suc a) (suc b) n h l =
    by_cases (dec_lt n 10) (λ s. rw (lt-ltb n 10 s))
    (λ g. rw (le-ltb n 10 (omega arith), digits_enough a b (n / 10) (omega arith) (omega arith)))

pub decimal_last : (n : ℕ) → n < 10 → decimal n ≡ (48 + n) ∷ []
unfolding decimal
decimal_last n h = rw (lt-ltb n 10 h) (ap (λ (d : ℕ). (48 + d) ∷ []) (mod-eq_of_lt h))

pub decimal_more : (n : ℕ) → 10 ≤ n → decimal n ≡ decimal (n / 10) ++ ((48 + n % 10) ∷ [])
unfolding decimal
decimal_more n h =
    rw (le-ltb n 10 h)
    (ap (λ (l : List ℕ). l ++ ((48 + n % 10) ∷ [])) (digits_enough n (suc (n / 10)) (n / 10) (omega arith) (omega arith)))

pub decimal_longer : (n : ℕ) → 10 ≤ n → length (decimal n) ≡ length (decimal (n / 10)) + 1
decimal_longer n h = ap length (decimal_more n h) ∙ length-append (decimal (n / 10)) ((48 + n % 10) ∷ [])

-- a number below 10 to the k + 1 has at most k + 1 digits
few : (k n : ℕ) → n < 10 ^ suc k → length (decimal n) ≤ suc k
few zero n h = rw (decimal_last n (omega arith)) (omega arith)
few (suc k) n h =
    by_cases (dec_lt n 10) (λ s. rw (decimal_last n s) (omega arith))
    (λ g. rw (decimal_more n (omega arith), length-append) (omega (arith, few k (n / 10) (omega arith))))

pub twenty : (n : ℕ) → n < 18446744073709551616 → length (decimal n) ≤ 20
twenty n h = few 19 n (omega arith)
