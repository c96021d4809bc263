-- One byte more is shown.
use Rattle.std.proofs.Common.{arith, ◌<◌, ◌∙◌, length, refl, length-set}
use Rattle.std.proofs.lemmas.List.{take_more_set}
use Rattle.index.proofs.Fields.{cleaned_next}
use Rattle.index.proofs.rows.name_field.Goals as goal

pub loop-i-preserved : goal.loop-i-preserved
loop-i-preserved c =
    let room : c.loop-i.i < length c.loop-i.shown = omega (arith, c.loop-i.invariant.0) in
    let next = cleaned_next c.args.name.now c.loop-i.i (omega arith) in (
      length-set c.loop-i.shown c.loop-i.i c.clean.result ∙ c.loop-i.invariant.0,
      rw (take_more_set c.loop-i.shown c.loop-i.i c.clean.result room, next, c.clean.ensures, c.loop-i.invariant.1) refl,
    )
