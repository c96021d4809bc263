-- What there is room for is left whole.
use Rattle.std.proofs.Common.{◌∙◌, ◌++◌, length-append, arith}
use Rattle.std.proofs.lemmas.List.{take_all}
use Rattle.index.proofs.rows.put.Goals as goal

pub returns : goal.returns
returns c =
    let row = c.args.row.now in
    let bytes = c.args.bytes.now in
    c.add.ensures ∙ take_all 4608 (row ++ bytes) (omega (arith, length-append row bytes))
