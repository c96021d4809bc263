-- What is lent is the words of the verdict's answer on these files, which are never empty and fit.
use Rattle.std.proofs.Common.{ap, ◌∙◌}
use Rattle.lines.specs.Words.{words_of}
use Rattle.lines.proofs.Laws.{words_some}
use Rattle.hiskurdo.specs.Texts.{answer_words, words_for}
use Rattle.hiskurdo.proofs.Lent.{held_sized}
use Rattle.hiskurdo.proofs.texts.hiskurdo_verdict_words.Goals as goal

pub returns-clause-sized : goal.returns-clause-sized
returns-clause-sized c =
    let answer = c.verdict-answer.result in
    let telling = c.telling-telling in
    let same = ap (words_of answer) telling.ensures ∙ ap (answer_words c.args.journal.now c.args.plan.now) c.verdict-answer.ensures.value in
    held_sized c.words_of.result (words_of answer telling.result) (words_for c.args.journal.now c.args.plan.now) c.words_of.ensures same
    (words_some answer telling.result)
