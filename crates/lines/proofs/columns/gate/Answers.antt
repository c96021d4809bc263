-- The gate with its number leaves room for the version.
use Rattle.std.proofs.Common.{ap, refl, length, length-append, arith}
use Rattle.endings.specs.Endings.{ascii}
use Rattle.lines.specs.Line.{decimal}
use Rattle.lines.proofs.Decimal.{twenty}
use Rattle.lines.proofs.Laws.{held_more}
use Rattle.lines.proofs.Table.{fits, gate_fits}
use Rattle.lines.proofs.columns.gate.Goals as goal

pub fill-line-requires : goal.fill-line-requires
fill-line-requires c = fits c.args.e.a (ascii "gate #") (omega arith) refl

pub write-requires : goal.write-requires
write-requires c = omega (arith, ap length c.fill-line.ensures.whole, gate_fits c.args.e.a (omega arith))

pub number-requires : goal.number-requires
number-requires c =
    let long = length-append c.fill-line.result (ascii " version ") in
    let whole = ap length c.fill-line.ensures.whole in
    omega (arith, ap length c.write.ensures, long, whole, gate_fits c.args.e.a (omega arith), twenty c.args.e.d (omega arith))

pub returns : goal.returns
returns c =
    let long = length-append c.fill-line.result (ascii " version ") in
    let whole = ap length c.fill-line.ensures.whole in
    held_more (ascii " version ") (decimal c.args.e.d) c.fill-line.ensures c.write.ensures c.number.ensures.value
    (omega (arith, c.number.ensures.len_bound, ap length c.write.ensures, long, whole, gate_fits c.args.e.a (omega arith)))
