-- What private functions of this crate ask of one another: no part of what a reader must believe, only a step to the rule.
use Rattle.std.specs.Prelude.{ℕ, ◌≡◌, ◌<◌, cond, List, leb, length, drop}
use Rattle.test_text.specs.Lines.{before, item_bytes}

-- how many bytes an item has, 0 where there is not so much room
abbrev pub item_length : List ℕ → ℕ → ℕ
item_length item room = cond (leb (length (item_bytes item)) room) (length (item_bytes item)) 0

-- behind the byte at the start of a text: the item, and what is left after it
pub record IsNextItem (text item more : List ℕ) : Type 0 where
  pub some : 0 < length text
  pub here : item ≡ before 32 (drop 1 text)
  pub rest : more ≡ drop (length item) (drop 1 text)
