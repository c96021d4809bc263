-- Before each turn of `write_digits` the bytes of the digits left, put where they belong, make the whole.
use Rattle.std.proofs.Common.{true, ◌*◌, ◌≡◌, drop}
use Rattle.test_text.specs.Lines.{paired, hex_bytes}
use Rattle.test_text.proofs.Put.{Left}
use Rattle.test_text.proofs.write_digits.Given as goal

abbrev pub invariant-loop-i : goal.invariant-loop-i
invariant-loop-i l =
    Left l.initial.room (hex_bytes l.digits) l.room l.i (hex_bytes (drop (2 * l.i) l.digits)) × (paired (drop (2 * l.i) l.digits) ≡ true)
