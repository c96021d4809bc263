-- 01's own lines, and 02's, hold: one computed test, from bytes to text.
use Prim.Native.Nat.{ℕ}
use mathlib.Core.Path.{◌≡◌, refl}
use mathlib.Core.List.{List, map}
use Rattle.cursor.specs.Advance as Cursor
use Rattle.machine.specs.Phases.{machine_advance_rule}
use Rattle.machine.specs.Effects.{intent_rule, outcome_rule}
use Rattle.files.specs.Fields.{field}
use Rattle.files.specs.Reading.{header_number, entries_rule, read_rule, journal_rule, plan_rule}
use Rattle.histories.specs.Procedure.{request_turn, gate_turn, walk, procedure}
use Rattle.lines.specs.Line.{decimal, line_of}
use Rattle.resume.specs.Verdict.{verdict_rule}
use Rattle.verdict.specs.Shown.{shown_lines}

pub shown_hold : map (λ (row : List ℕ × List ℕ). row.0) shown_lines ≡ map (λ (row : List ℕ × List ℕ). row.1) shown_lines
unfolding Cursor.advance_rule machine_advance_rule intent_rule outcome_rule field header_number entries_rule read_rule journal_rule plan_rule
    request_turn gate_turn walk procedure decimal line_of verdict_rule
shown_hold = refl
