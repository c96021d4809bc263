-- The bytes passed are shown.
use Rattle.std.proofs.Common.{◌≡◌, length, take}
use Rattle.index.specs.Row.{cleaned}
use Rattle.index.proofs.rows.name_field.Given as goal

abbrev pub invariant-loop-i : goal.invariant-loop-i
invariant-loop-i l = (length l.shown ≡ 4608) × (take l.i l.shown ≡ cleaned (take l.i l.name))
