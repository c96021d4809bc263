-- What is lent is the line of the verdict's answer, which is never empty and fits.
use Rattle.std.proofs.Common.{ap}
use Rattle.lines.specs.Line.{line_of}
use Rattle.lines.proofs.Laws.{line_some}
use Rattle.resume.specs.Verdict.{verdict_rule}
use Rattle.hiskurdo.proofs.Lent.{held_sized}
use Rattle.hiskurdo.proofs.texts.hiskurdo_verdict_line.Goals as goal

pub returns-clause-sized : goal.returns-clause-sized
returns-clause-sized c =
    let answer = c.verdict.result in
    held_sized c.line_of.result (line_of answer) (line_of (verdict_rule c.args.journal.now c.args.plan.now)) c.line_of.ensures
    (ap line_of c.verdict.ensures.value) (line_some answer)
