-- Before each turn of `file_len` the items left, with the bytes so far, have the length of the file; the measure is the text left.
use Rattle.std.proofs.Common.{length, [], ◌≡◌, ◌≤◌}
use Rattle.test_text.specs.Lines.{before, items, file_of}
use Rattle.test_text.proofs.Sizes.{sized}
use Rattle.test_text.proofs.file_len.Given as goal

abbrev pub invariant-loop-item : goal.invariant-loop-item
invariant-loop-item l =
    (sized l.room l.len (items l.left) ≡ length (file_of l.fn.line l.room)) × (before 32 l.left ≡ []) × (l.len ≤ l.room)

abbrev pub decreases-loop-item : goal.decreases-loop-item
decreases-loop-item l = length l.left
