-- The words of the table have room.
use Rattle.std.proofs.Common.{ap, ℕ, List, length, arith}
use Rattle.lines.specs.Words.{filled}
use Rattle.lines.proofs.Table.{words_fit}
use Rattle.lines.proofs.words.said.Goals as goal

pub fill-requires : goal.fill-requires
fill-requires c =
    omega (
      arith,
      ap (λ (l : List ℕ). length (filled c.args.n l)) c.row.ensures,
      words_fit c.args.n c.args.number c.args.detail (omega arith),
    )
