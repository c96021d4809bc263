-- `run` ends: each pair of lines ends after it begins.
use Rattle.std.proofs.Common.{◌-◌, length}
use Rattle.test_pairs.proofs.run.Given as goal

abbrev pub decreases-loop-at : goal.decreases-loop-at
decreases-loop-at g l = length l.text - l.at
