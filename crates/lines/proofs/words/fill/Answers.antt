-- One byte more is shown, and it fits since the whole text does.
use Rattle.std.proofs.Common.{ap, length, add-one, arith}
use Rattle.lines.proofs.Table.{filled_next, filled_within}
use Rattle.lines.proofs.words.fill.Goals as goal

pub show-requires : goal.show-requires
show-requires c =
    omega (arith, ap length c.loop-byte.invariant, filled_within c.args.n c.args.text.now c.loop-byte.byte-index (omega arith))

pub loop-byte-preserved : goal.loop-byte-preserved
loop-byte-preserved c =
    rw (add-one c.loop-byte.byte-index, filled_next c.args.n c.args.text.now c.loop-byte.byte-index (omega arith), c.show.ensures, c.loop-byte.invariant)
