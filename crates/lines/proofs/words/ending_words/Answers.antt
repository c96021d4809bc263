-- The row's words leave room for the failed steps, which are told where the rule says so.
use Rattle.std.proofs.Common.{ap, sym, ◌∙◌, length, length-append, arith}
use Rattle.endings.specs.Endings.{ascii}
use Rattle.lines.specs.Line.{decimal}
use Rattle.lines.proofs.Decimal.{twenty}
use Rattle.lines.proofs.Table.{ending_fits}
use Rattle.lines.proofs.Laws.{held_more, told_failed}
use Rattle.lines.proofs.words.ending_words.Goals as goal

pub write-requires : goal.write-requires
write-requires c =
    omega (arith, ap length c.said-line.ensures.whole, ending_fits c.args.n c.ending_detail.result (omega arith))

pub number-requires : goal.number-requires
number-requires c =
    let long = length-append c.said-line.result (ascii "; failed steps: ") in
    let whole = ap length c.said-line.ensures.whole in
    let fits = ending_fits c.args.n c.ending_detail.result (omega arith) in
    omega (arith, ap length c.write.ensures, long, whole, fits, twenty c.args.failed (omega arith))

pub returns-then-tells_failed : goal.returns-then-tells_failed
returns-then-tells_failed c =
    let a = c.args in
    let last = c.number in
    let long = length-append c.said-line.result (ascii "; failed steps: ") in
    let whole = ap length c.said-line.ensures.whole in
    told_failed a.ending a.n a.kind a.failed (sym c.tells_failed.ensures ∙ c.if-tells_failed.true)
    c.ending_detail.ensures
    (held_more (ascii "; failed steps: ") (decimal a.failed) c.said-line.ensures c.write.ensures last.ensures.value
    (omega (arith, last.ensures.len_bound, ap length c.write.ensures, long, whole, ending_fits a.n c.ending_detail.result (omega arith))))
