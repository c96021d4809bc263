-- An effect's words leave room for its activity.
use Rattle.std.proofs.Common.{refl, arith}
use Rattle.endings.specs.Endings.{ascii}
use Rattle.lines.proofs.Table.{fits}
use Rattle.lines.proofs.columns.what_is.Goals as goal

pub fill-requires : goal.fill-requires
fill-requires c = fits c.args.e.a (ascii "effect #") (omega arith) refl
