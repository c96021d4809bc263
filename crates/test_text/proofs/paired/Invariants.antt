-- Before each turn of `paired` what is left is paired where the whole is; the measure is what is left.
use Rattle.std.proofs.Common.{length, ◌≡◌}
use Rattle.test_text.specs.Lines.{paired}
use Rattle.test_text.proofs.paired.Given as goal

abbrev pub invariant-loop-left : goal.invariant-loop-left
invariant-loop-left l = paired l.left ≡ paired l.fn.s

abbrev pub decreases-loop-left : goal.decreases-loop-left
decreases-loop-left l = length l.left
