-- Before each turn of `decimal` the number that goes on here is the whole.
use Rattle.std.proofs.Common.{◌≡◌, ◌≤◌, drop}
use Rattle.test_text.specs.Lines.{decimal_from}
use Rattle.test_text.proofs.decimal.Given as goal

abbrev pub invariant-loop-b : goal.invariant-loop-b
invariant-loop-b l = (decimal_from l.value (drop l.b-index l.s) ≡ decimal_from 0 l.s) × (l.value ≤ 65535)
