-- In `walk` one number is left after the loop, and its marker is accepted and leaves none.
use Rattle.std.proofs.Common.{◌∙◌, ap}
use Rattle.test_numbering.specs.declared.Counted.{Counted}
use Rattle.test_numbering.proofs.Laws.{takes_last, answered, one_on, marks_it, never, walked_is}
use Rattle.test_numbering.proofs.walk.Goals as goal
use Rattle.test_numbering.proofs.walk.Goals.{then-marks, else-marks}

pub returns : goal.returns
returns c =
    let counted = c.walk_to_last-counted.ensures in
    let is = answered 4294967295 c.marker.ensures c.advance-called.ensures (ap (λ (k : Counted). k.machine) counted.0) takes_last in
    elim c.if-marks.branch [
      | then-marks w ↦
          rw w.markers-is
          (walked_is counted.0 is, (counted.1, one_on 4294967295 c.marker.ensures c.advance-called.ensures counted.1 is))
      | else-marks w ↦ never c.marks.result w.if-marks.false (c.marks.ensures ∙ marks_it 4294967295 is)
    ]
