-- In `write_item` a copy of the bytes is what is written next, and when none is left the whole stands there.
use Rattle.std.proofs.Common.{true, ◌-◌, ◌+◌, ◌≡◌, ◌∙◌, ap, arith}
use Rattle.test_text.specs.Lines.{hex_bytes, item_bytes, copies, paired}
use Rattle.test_text.proofs.Digits.{copies_next, copies_end}
use Rattle.test_text.proofs.Sizes.{item_copies}
use Rattle.test_text.proofs.Put.{left_all, left_room, left_part, left_none}
use Rattle.test_text.proofs.write_item.Goals as goal

pub loop-init : goal.loop-init
loop-init c =
    let item = c.item_of-item in
    let digits = item.result.digits.now in
    let known : paired digits ≡ true = ap paired item.ensures.digits ∙ c.requires.item_value in
    let none : item.result.times - 0 ≡ item.result.times = omega arith in
    rw (none, item_copies c.args.text.now digits item.result.times item.ensures.digits item.ensures.times known)
    (left_all c.args.room.now (item_bytes c.args.text.now))

pub write_digits-len-requires-clause-digits_in_bounds : goal.write_digits-len-requires-clause-digits_in_bounds
write_digits-len-requires-clause-digits_in_bounds c =
    let loop = c.loop in
    let times = c.item_of-item.result.times in
    let bytes = hex_bytes c.item_of-item.result.digits.now in
    left_room c.args.room.now (item_bytes c.args.text.now) loop.room loop.len (copies (times - loop.counter) bytes) loop.invariant
    bytes (copies (times - (loop.counter + 1)) bytes) (copies_next bytes times loop.counter c.loop-test.true) c.requires.item_in_bounds

pub loop-preserved : goal.loop-preserved
loop-preserved c =
    let loop = c.loop in
    let written = c.write_digits-len in
    let times = c.item_of-item.result.times in
    let bytes = hex_bytes c.item_of-item.result.digits.now in
    left_part c.args.room.now (item_bytes c.args.text.now) loop.room loop.len (copies (times - loop.counter) bytes) loop.invariant
    bytes (copies (times - (loop.counter + 1)) bytes) written.new.room written.result
    (copies_next bytes times loop.counter c.loop-test.true) c.requires.item_in_bounds written.ensures.room_after written.ensures.value

pub returns : goal.returns
returns c =
    let loop = c.loop in
    let times = c.item_of-item.result.times in
    let bytes = hex_bytes c.item_of-item.result.digits.now in
    let whole =
    left_none c.args.room.now (item_bytes c.args.text.now) loop.room loop.len (copies (times - loop.counter) bytes) loop.invariant
    (copies_end bytes times loop.counter c.loop-test.false) in
    record { value = whole.0; room_after = whole.1 }
