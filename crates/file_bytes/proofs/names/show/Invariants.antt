-- Before each turn the bytes so far are shown.
use Rattle.std.proofs.Common.{◌<◌, ◌≡◌, ℕ, slice_index}
use Rattle.file_bytes.specs.Names.{clean}
use Rattle.file_bytes.proofs.names.show.Given as goal

abbrev pub invariant-loop-i : goal.invariant-loop-i
invariant-loop-i l = (k : ℕ) → k < l.i → slice_index l.room k ≡ clean (slice_index l.name k)
