-- In `write_items` the bytes of the next item are what is written next.
use Rattle.test_text.specs.Lines.{items, item_bytes, items_bytes}
use Rattle.test_text.proofs.Before.{space_next}
use Rattle.test_text.proofs.Put.{left_part}
use Rattle.test_text.proofs.Sizes.{turn_right, turn_bytes}
use Rattle.test_text.proofs.write_items.Goals as goal

pub write_item-len-requires-clause-item_value : goal.write_item-len-requires-clause-item_value
write_item-len-requires-clause-item_value c =
    let loop = c.loop-item in
    let next = c.in-Some in
    (turn_right loop.left.now next.item.now next.more.now loop.invariant.1 next.ensures.some loop.invariant.2).0

pub loop-item-preserved : goal.loop-item-preserved
loop-item-preserved c =
    let loop = c.loop-item in
    let next = c.in-Some in
    let written = c.write_item-len in
    let left = loop.left.now in
    let item = next.item.now in
    let more = next.more.now in (
      left_part c.args.room.now (items_bytes (items c.args.line.now)) loop.room loop.len (items_bytes (items left)) loop.invariant.0
          (item_bytes item) (items_bytes (items more)) written.new.room written.result (turn_bytes left item more loop.invariant.1 next.ensures.some)
          c.requires.line_in_bounds written.ensures.room_after written.ensures.value,
      space_next left item more loop.invariant.1 next.ensures.some,
      (turn_right left item more loop.invariant.1 next.ensures.some loop.invariant.2).1,
    )
