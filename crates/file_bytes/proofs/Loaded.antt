-- What `Loaded` says of 0 bytes.
use Prim.Native.Nat.{ℕ}
use mathlib.Core.Path.{◌≡◌}
use mathlib.Core.List.{List}
use Rattle.file_bytes.specs.Loaded.{Loaded}

-- 0 leaves the room as it was
pub loaded_none : (before after : List ℕ) → Loaded before 0 after → after ≡ before
loaded_none before after h = h.beyond
