-- In `walk_to_last` the offered marker is accepted, so none is refused on the way and every turn goes on.
use Rattle.std.proofs.Common.{refl, ◌∙◌, ◌≡◌, ◌+◌, false, ap}
use Rattle.cursor.specs.declared.Step.{Step}
use Rattle.machine.specs.declared.Answered.{Answered}
use Rattle.test_numbering.proofs.Laws.{begun, takes, answered, one_on, marks_it, never, replays, settled, carried, remade}
use Rattle.test_numbering.proofs.walk_to_last.Goals as goal
use Rattle.test_numbering.proofs.walk_to_last.Goals.{in_default-via-in-Replaying+in_default, in_default-via-in_default}

pub loop-number-init : goal.loop-number-init
loop-number-init c =
    let begins = begun c.new.ensures c.start.ensures c.advance-started.ensures in carried 0 begins.0 begins.1

pub returns-then-not-marks : goal.returns-then-not-marks
returns-then-not-marks c =
    let n = c.loop-number.number in
    let now = remade n c.replaying-machine.ensures c.loop-number.invariant in
    let is = answered n refl c.advance_marker-called.ensures now.0 (takes n c.loop-number-test.true) in
    let refused : c.marks.result ≡ false = cc in
    never c.marks.result refused (c.marks.ensures ∙ marks_it n is)

pub returns-in_default : goal.returns-in_default
returns-in_default c =
    let n = c.loop-number.number in
    let now = remade n c.replaying-machine.ensures c.loop-number.invariant in
    let is = answered n refl c.advance_marker-called.ensures now.0 (takes n c.loop-number-test.true) in
    elim c.in_default.branch [
      | in_default-via-in-Replaying+in_default w ↦ let h = w.in_default.not-Settled-1 in absurd (h (settled n is))
      | in_default-via-in_default w ↦ let h = w.in_default.not-Replaying-0 in absurd (h (replays n is))
    ]

pub loop-number-preserved : goal.loop-number-preserved
loop-number-preserved c =
    let n = c.loop-number.number in
    let now = remade n c.replaying-machine.ensures c.loop-number.invariant in
    let is = answered n refl c.advance_marker-called.ensures now.0 (takes n c.loop-number-test.true) in
    carried (n + 1) (ap (λ (y : Answered Step). y.machine) is) (one_on n refl c.advance_marker-called.ensures now.1 is)
