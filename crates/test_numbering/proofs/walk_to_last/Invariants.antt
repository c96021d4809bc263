-- In `walk_to_last` the machine with this allocator offers n after n markers, each of them accepted.
use Rattle.std.proofs.Common.{◌≡◌}
use Rattle.machine.specs.declared.Phase.TheVariants as Phase
use Rattle.test_numbering.specs.Walk.{Marked, after_markers}
use Rattle.test_numbering.specs.Turns.{replaying_with}
use Rattle.test_numbering.proofs.walk_to_last.Given as goal

abbrev pub invariant-loop-number : goal.invariant-loop-number
invariant-loop-number l =
    (replaying_with l.ids Phase.Settled ≡ after_markers l.number) × Marked l.number (replaying_with l.ids Phase.Settled)
