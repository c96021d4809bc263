-- Each arm is a row of the table; where none is taken, the table has no row.
use Rattle.std.proofs.Common.{refl}
use Rattle.lines.proofs.Table.{arm, none_at, none_of}
use Rattle.lines.proofs.words.row.Goals.{
  in_default-via-in-0+in_default,
  in_default-via-in-1+in_default,
  in_default-via-in-2+in_default,
  in_default-via-in-3+in_default,
  in_default-via-in-4+in_default,
  in_default-via-in-6+in_default,
  in_default-via-in-7+in_default,
  in_default-via-in-8+in_default,
  in_default-via-in-9+in_default,
  in_default-via-in-11+in_default,
  in_default-via-in-12+in_default,
  in_default-via-in-13+in_default,
  in_default-via-in-14+in_default,
  in_default-via-in-15+in_default,
  in_default-via-in-16+in_default,
  in_default-via-in-17+in_default,
  in_default-via-in-18+in_default,
  in_default-via-in-19+in_default,
  in_default-via-in-22+in_default,
  in_default-via-in-23+in_default,
  in_default-via-in-24+in_default,
  in_default-via-in-25+in_default,
  in_default-via-in-31+in_default,
  in_default-via-in-44+in_default,
  in_default-via-in-45+in_default,
  in_default-via-in_default,
}
use Rattle.lines.proofs.words.row.Goals as goal

pub returns-in-0-eq0 : goal.returns-in-0-eq0
returns-in-0-eq0 c = arm c.in-0-eq0.is-0 c.in-0-eq0.is-1 refl

pub returns-in-0-eq1 : goal.returns-in-0-eq1
returns-in-0-eq1 c = arm c.in-0-eq1.is-0 c.in-0-eq1.is-1 refl

pub returns-in-0-eq2 : goal.returns-in-0-eq2
returns-in-0-eq2 c = arm c.in-0-eq2.is-0 c.in-0-eq2.is-1 refl

pub returns-in-0-eq3 : goal.returns-in-0-eq3
returns-in-0-eq3 c = arm c.in-0-eq3.is-0 c.in-0-eq3.is-1 refl

pub returns-in-0-eq4 : goal.returns-in-0-eq4
returns-in-0-eq4 c = arm c.in-0-eq4.is-0 c.in-0-eq4.is-1 refl

pub returns-in-0-eq5 : goal.returns-in-0-eq5
returns-in-0-eq5 c = arm c.in-0-eq5.is-0 c.in-0-eq5.is-1 refl

pub returns-in-0-eq6 : goal.returns-in-0-eq6
returns-in-0-eq6 c = arm c.in-0-eq6.is-0 c.in-0-eq6.is-1 refl

pub returns-in-0-eq7 : goal.returns-in-0-eq7
returns-in-0-eq7 c = arm c.in-0-eq7.is-0 c.in-0-eq7.is-1 refl

pub returns-in-1-eq0 : goal.returns-in-1-eq0
returns-in-1-eq0 c = arm c.in-1-eq0.is-0 c.in-1-eq0.is-1 refl

pub returns-in-2-eq0 : goal.returns-in-2-eq0
returns-in-2-eq0 c = arm c.in-2-eq0.is-0 c.in-2-eq0.is-1 refl

pub returns-in-3-eq0 : goal.returns-in-3-eq0
returns-in-3-eq0 c = arm c.in-3-eq0.is-0 c.in-3-eq0.is-1 refl

pub returns-in-4-eq0 : goal.returns-in-4-eq0
returns-in-4-eq0 c = arm c.in-4-eq0.is-0 c.in-4-eq0.is-1 refl

pub returns-in-6-eq0 : goal.returns-in-6-eq0
returns-in-6-eq0 c = arm c.in-6-eq0.is-0 c.in-6-eq0.is-1 refl

pub returns-in-7-eq0 : goal.returns-in-7-eq0
returns-in-7-eq0 c = arm c.in-7-eq0.is-0 c.in-7-eq0.is-1 refl

pub returns-in-8-eq0 : goal.returns-in-8-eq0
returns-in-8-eq0 c = arm c.in-8-eq0.is-0 c.in-8-eq0.is-1 refl

pub returns-in-9-eq0 : goal.returns-in-9-eq0
returns-in-9-eq0 c = arm c.in-9-eq0.is-0 c.in-9-eq0.is-1 refl

pub returns-in-11-eq0 : goal.returns-in-11-eq0
returns-in-11-eq0 c = arm c.in-11-eq0.is-0 c.in-11-eq0.is-1 refl

pub returns-in-12-eq0 : goal.returns-in-12-eq0
returns-in-12-eq0 c = arm c.in-12-eq0.is-0 c.in-12-eq0.is-1 refl

pub returns-in-13-eq0 : goal.returns-in-13-eq0
returns-in-13-eq0 c = arm c.in-13-eq0.is-0 c.in-13-eq0.is-1 refl

pub returns-in-14-eq0 : goal.returns-in-14-eq0
returns-in-14-eq0 c = arm c.in-14-eq0.is-0 c.in-14-eq0.is-1 refl

pub returns-in-15-eq0 : goal.returns-in-15-eq0
returns-in-15-eq0 c = arm c.in-15-eq0.is-0 c.in-15-eq0.is-1 refl

pub returns-in-16-eq0 : goal.returns-in-16-eq0
returns-in-16-eq0 c = arm c.in-16-eq0.is-0 c.in-16-eq0.is-1 refl

pub returns-in-17-eq0 : goal.returns-in-17-eq0
returns-in-17-eq0 c = arm c.in-17-eq0.is-0 c.in-17-eq0.is-1 refl

pub returns-in-18-eq0 : goal.returns-in-18-eq0
returns-in-18-eq0 c = arm c.in-18-eq0.is-0 c.in-18-eq0.is-1 refl

pub returns-in-19-eq0 : goal.returns-in-19-eq0
returns-in-19-eq0 c = arm c.in-19-eq0.is-0 c.in-19-eq0.is-1 refl

pub returns-in-22-eq1 : goal.returns-in-22-eq1
returns-in-22-eq1 c = arm c.in-22-eq1.is-0 c.in-22-eq1.is-1 refl

pub returns-in-22-eq2 : goal.returns-in-22-eq2
returns-in-22-eq2 c = arm c.in-22-eq2.is-0 c.in-22-eq2.is-1 refl

pub returns-in-22-eq4 : goal.returns-in-22-eq4
returns-in-22-eq4 c = arm c.in-22-eq4.is-0 c.in-22-eq4.is-1 refl

pub returns-in-22-eq5 : goal.returns-in-22-eq5
returns-in-22-eq5 c = arm c.in-22-eq5.is-0 c.in-22-eq5.is-1 refl

pub returns-in-22-eq6 : goal.returns-in-22-eq6
returns-in-22-eq6 c = arm c.in-22-eq6.is-0 c.in-22-eq6.is-1 refl

pub returns-in-22-eq8 : goal.returns-in-22-eq8
returns-in-22-eq8 c = arm c.in-22-eq8.is-0 c.in-22-eq8.is-1 refl

pub returns-in-22-eq9 : goal.returns-in-22-eq9
returns-in-22-eq9 c = arm c.in-22-eq9.is-0 c.in-22-eq9.is-1 refl

pub returns-in-23-eq0 : goal.returns-in-23-eq0
returns-in-23-eq0 c = arm c.in-23-eq0.is-0 c.in-23-eq0.is-1 refl

pub returns-in-24-eq0 : goal.returns-in-24-eq0
returns-in-24-eq0 c = arm c.in-24-eq0.is-0 c.in-24-eq0.is-1 refl

pub returns-in-24-eq1 : goal.returns-in-24-eq1
returns-in-24-eq1 c = arm c.in-24-eq1.is-0 c.in-24-eq1.is-1 refl

pub returns-in-24-eq2 : goal.returns-in-24-eq2
returns-in-24-eq2 c = arm c.in-24-eq2.is-0 c.in-24-eq2.is-1 refl

pub returns-in-25-eq0 : goal.returns-in-25-eq0
returns-in-25-eq0 c = arm c.in-25-eq0.is-0 c.in-25-eq0.is-1 refl

pub returns-in-31-eq0 : goal.returns-in-31-eq0
returns-in-31-eq0 c = arm c.in-31-eq0.is-0 c.in-31-eq0.is-1 refl

pub returns-in-31-eq1 : goal.returns-in-31-eq1
returns-in-31-eq1 c = arm c.in-31-eq1.is-0 c.in-31-eq1.is-1 refl

pub returns-in-44-eq0 : goal.returns-in-44-eq0
returns-in-44-eq0 c = arm c.in-44-eq0.is-0 c.in-44-eq0.is-1 refl

pub returns-in-45-eq0 : goal.returns-in-45-eq0
returns-in-45-eq0 c = arm c.in-45-eq0.is-0 c.in-45-eq0.is-1 refl

pub returns-in_default : goal.returns-in_default
returns-in_default c =
    elim c.in_default.branch [
      | in_default-via-in-0+in_default w ↦ none_at 0 c.args.detail w.in_default.is-0 w.in_default.is-1
      | in_default-via-in-1+in_default w ↦ none_at 1 c.args.detail w.in_default.is-0 w.in_default.is-1
      | in_default-via-in-2+in_default w ↦ none_at 2 c.args.detail w.in_default.is-0 w.in_default.is-1
      | in_default-via-in-3+in_default w ↦ none_at 3 c.args.detail w.in_default.is-0 w.in_default.is-1
      | in_default-via-in-4+in_default w ↦ none_at 4 c.args.detail w.in_default.is-0 w.in_default.is-1
      | in_default-via-in-6+in_default w ↦ none_at 6 c.args.detail w.in_default.is-0 w.in_default.is-1
      | in_default-via-in-7+in_default w ↦ none_at 7 c.args.detail w.in_default.is-0 w.in_default.is-1
      | in_default-via-in-8+in_default w ↦ none_at 8 c.args.detail w.in_default.is-0 w.in_default.is-1
      | in_default-via-in-9+in_default w ↦ none_at 9 c.args.detail w.in_default.is-0 w.in_default.is-1
      | in_default-via-in-11+in_default w ↦ none_at 11 c.args.detail w.in_default.is-0 w.in_default.is-1
      | in_default-via-in-12+in_default w ↦ none_at 12 c.args.detail w.in_default.is-0 w.in_default.is-1
      | in_default-via-in-13+in_default w ↦ none_at 13 c.args.detail w.in_default.is-0 w.in_default.is-1
      | in_default-via-in-14+in_default w ↦ none_at 14 c.args.detail w.in_default.is-0 w.in_default.is-1
      | in_default-via-in-15+in_default w ↦ none_at 15 c.args.detail w.in_default.is-0 w.in_default.is-1
      | in_default-via-in-16+in_default w ↦ none_at 16 c.args.detail w.in_default.is-0 w.in_default.is-1
      | in_default-via-in-17+in_default w ↦ none_at 17 c.args.detail w.in_default.is-0 w.in_default.is-1
      | in_default-via-in-18+in_default w ↦ none_at 18 c.args.detail w.in_default.is-0 w.in_default.is-1
      | in_default-via-in-19+in_default w ↦ none_at 19 c.args.detail w.in_default.is-0 w.in_default.is-1
      | in_default-via-in-22+in_default w ↦ none_at 22 c.args.detail w.in_default.is-0 w.in_default.is-1
      | in_default-via-in-23+in_default w ↦ none_at 23 c.args.detail w.in_default.is-0 w.in_default.is-1
      | in_default-via-in-24+in_default w ↦ none_at 24 c.args.detail w.in_default.is-0 w.in_default.is-1
      | in_default-via-in-25+in_default w ↦ none_at 25 c.args.detail w.in_default.is-0 w.in_default.is-1
      | in_default-via-in-31+in_default w ↦ none_at 31 c.args.detail w.in_default.is-0 w.in_default.is-1
      | in_default-via-in-44+in_default w ↦ none_at 44 c.args.detail w.in_default.is-0 w.in_default.is-1
      | in_default-via-in-45+in_default w ↦ none_at 45 c.args.detail w.in_default.is-0 w.in_default.is-1
      | in_default-via-in_default w ↦ none_of c.args.number c.args.detail w.in_default.is-0
    ]
