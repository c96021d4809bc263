-- Before each turn of `write_item` the copies left, put where they belong, make the whole.
use Rattle.std.proofs.Common.{◌-◌}
use Rattle.test_text.specs.Lines.{hex_bytes, item_bytes, copies}
use Rattle.test_text.proofs.Put.{Left}
use Rattle.test_text.proofs.write_item.Given as goal

abbrev pub invariant-loop : goal.invariant-loop
invariant-loop l = Left l.initial.room (item_bytes l.text) l.room l.len (copies (l.end - l.counter) (hex_bytes l.item.digits.now))
