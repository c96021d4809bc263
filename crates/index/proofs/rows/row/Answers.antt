-- The name and its tab leave room for the other fields.
use Rattle.std.proofs.Common.{ap, ◌++◌, ◌∷◌, [], length, length-append, arith}
use Rattle.index.specs.Row.{cleaned}
use Rattle.index.proofs.Fields.{cleaned_length}
use Rattle.index.proofs.rows.row.Goals as goal

pub answer_fields-requires : goal.answer_fields-requires
answer_fields-requires c =
    let shown = cleaned c.args.name.now in
    omega (
      arith,
      ap length c.name_field.ensures,
      ap length c.empty-row.ensures,
      length-append c.empty-row.result (shown ++ (9 ∷ [])),
      length-append shown (9 ∷ []),
      cleaned_length c.args.name.now,
    )
