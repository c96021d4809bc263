-- What a lent room holds after n bytes of an argument or of a file were put at its start.
use Rattle.std.specs.Prelude.{ℕ, ◌≤◌, ◌≡◌, List, length, take, drop}

-- n counts bytes at the start of the room, and what is beyond them keeps its values: 0 leaves the room as it was. The second part
-- follows from the first; callers that read the n bytes use it.
pub record Loaded (before : List ℕ) (n : ℕ) (after : List ℕ) : Type 0 where
  pub fits : n ≤ length after
  pub counts : n ≡ length (take n after)
  pub beyond : drop n after ≡ drop n before
  pub same : length after ≡ length before
