-- A run that goes on does so at its stop.
use Rattle.std.proofs.Common.{refl, sym, ◌∙◌, arith}
use Rattle.endings.specs.Endings.{ascii}
use Rattle.lines.proofs.Table.{fits}
use Rattle.lines.proofs.words.resumed.Goals as goal

pub fill-requires : goal.fill-requires
fill-requires c = fits c.args.stop (ascii "yes, step #") (omega arith) refl

pub returns-then-still_to_run : goal.returns-then-still_to_run
returns-then-still_to_run c = rw (sym c.still_to_run.ensures ∙ c.if-still_to_run.true) c.fill.ensures

pub returns-else-still_to_run : goal.returns-else-still_to_run
returns-else-still_to_run c = rw (sym c.still_to_run.ensures ∙ c.if-still_to_run.false) c.fill-else-still_to_run.ensures
