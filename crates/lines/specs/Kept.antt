-- How a text is kept in a room of this size: its bytes come first, and zeros after them.
use Rattle.std.specs.Prelude.{ℕ, ◌-◌, ◌≤◌, ◌≡◌, List, ◌++◌, length, replicate, take}
use Rattle.lines.specs.declared.text.Text.TheInside.{Inside}

-- the text's own bytes
abbrev pub bytes_of : {size : ℕ} → Inside size → List ℕ
bytes_of t = take t.len t.bytes

-- a text of these bytes: they come first, and zeros after them
abbrev pub holding : (size : ℕ) → List ℕ → Inside size
holding size bytes = record { bytes = bytes ++ replicate (size - length bytes) 0; len = length bytes }

-- every byte of the room is fixed by those of the text
pub record IsKept (size : ℕ) (t : Inside size) : Type 0 where
  pub whole : holding size (bytes_of t) ≡ t
  pub fits : t.len ≤ size
