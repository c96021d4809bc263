-- In `write_digits` the byte of the next two digits is what is written next.
use Rattle.std.proofs.Common.{◌∙◌, ◌*◌, ◌+◌, ◌∷◌, ◌≡◌, ap, sym, arith, drop, get_or, ℕ}
use Rattle.test_text.specs.Lines.{hex_byte, hex_bytes}
use Rattle.test_text.proofs.Digits.{bytes_length, bytes_at, paired_at, byte_of}
use Rattle.test_text.proofs.Put.{left_byte}
use Rattle.test_text.proofs.write_digits.Goals as goal

pub loop-i-preserved : goal.loop-i-preserved
loop-i-preserved c =
    let loop = c.loop-i in
    let digits = c.args.digits.now in
    let high = get_or digits (2 * loop.i) 0 in
    let low = get_or digits (2 * loop.i + 1) 0 in
    let later = hex_bytes (drop (2 * (loop.i + 1)) digits) in
    let there = paired_at digits loop.i (omega arith) loop.invariant.1 in
    let byte : 16 * c.unwrap_or-high.result + c.unwrap_or-low.result ≡ hex_byte high low =
    rw (c.unwrap_or-high.ensures, c.unwrap_or-low.ensures)
    (byte_of high low c.hex_digit.result c.hex_digit-in-loop-i.result c.hex_digit.ensures.value c.hex_digit-in-loop-i.ensures.value
    c.hex_digit.ensures.upper_bound c.hex_digit-in-loop-i.ensures.upper_bound there.0) in (
      left_byte c.args.room.now (hex_bytes digits) loop.room loop.i (hex_bytes (drop (2 * loop.i) digits)) loop.invariant.0
          (16 * c.unwrap_or-high.result + c.unwrap_or-low.result) later (bytes_at digits loop.i (omega arith) ∙ ap (λ (b : ℕ). b ∷ later) (sym byte))
          (omega (arith, bytes_length digits)),
      there.1,
    )
