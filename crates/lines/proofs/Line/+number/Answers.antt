-- The last digit, after the digits of a tenth of the number.
use Rattle.std.proofs.Common.{ap, ◌/◌, ◌++◌, ℕ, [], ◌∷◌, length, length-append, append_assoc, arith}
use Rattle.lines.specs.Line.{decimal}
use Rattle.lines.proofs.Decimal.{decimal_last, decimal_more, decimal_longer, twenty}
use Rattle.lines.proofs.Line.+number.Goals.{then-n-ge10, else-n-ge10}
use Rattle.lines.proofs.Line.+number.Goals as goal

pub number-requires : goal.number-requires
number-requires t c = (omega arith, omega (arith, decimal_longer c.args.n (omega arith)))

pub push-requires : goal.push-requires
push-requires t c =
    elim c.if-n-ge10.branch [
      | then-n-ge10 w ↦
          let tenth = decimal (c.args.n / 10) in
          omega (arith, ap length w.self-is, ap length w.number.ensures.value, length-append c.args.self.now tenth, decimal_longer c.args.n (omega arith))
      | else-n-ge10 w ↦ omega (arith, ap length w.self-is, ap length (decimal_last c.args.n (omega arith)))
    ]

pub returns-clause-value : goal.returns-clause-value
returns-clause-value t c =
    elim c.if-n-ge10.branch [
      | then-n-ge10 w ↦ rw (c.push.ensures, w.self-is, w.number.ensures.value, decimal_more c.args.n (omega arith)) (simp append_assoc)
      | else-n-ge10 w ↦ rw (c.push.ensures, w.self-is, decimal_last c.args.n (omega arith)) (ap (λ (d : ℕ). c.args.self.now ++ (d ∷ [])) (omega arith))
    ]

pub returns-clause-len_bound : goal.returns-clause-len_bound
returns-clause-len_bound t c =
    let long = length-append c.args.self.now (decimal c.args.n) in
    omega (arith, ap length (returns-clause-value t c), long, twenty c.args.n (omega arith))
