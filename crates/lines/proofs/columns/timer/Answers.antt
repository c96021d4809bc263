-- A timer's words leave room for its deadline.
use Rattle.std.proofs.Common.{refl, arith}
use Rattle.endings.specs.Endings.{ascii}
use Rattle.lines.proofs.Table.{fits}
use Rattle.lines.proofs.columns.timer.Goals as goal

pub fill-requires : goal.fill-requires
fill-requires c = fits c.args.e.d (ascii "timer boot #") (omega arith) refl

pub fill-requires-else-e-eq1 : goal.fill-requires-else-e-eq1
fill-requires-else-e-eq1 c = fits c.args.e.d (ascii "timer persistent #") (omega arith) refl
