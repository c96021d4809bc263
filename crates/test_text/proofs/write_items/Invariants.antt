-- Before each turn of `write_items` the bytes of the items left, put where they belong, make the whole; the measure is the text left.
use Rattle.std.proofs.Common.{length, true, [], ◌≡◌}
use Rattle.test_text.specs.Lines.{before, items, items_bytes, right}
use Rattle.test_text.proofs.Put.{Left}
use Rattle.test_text.proofs.write_items.Given as goal

abbrev pub invariant-loop-item : goal.invariant-loop-item
invariant-loop-item l =
    Left l.initial.room (items_bytes (items l.fn.line)) l.room l.len (items_bytes (items l.left)) × (before 32 l.left ≡ []) ×
    (right (items l.left) ≡ true)

abbrev pub decreases-loop-item : goal.decreases-loop-item
decreases-loop-item l = length l.left
