-- The bytes take the place of as many zeros, and are seen behind the text.
use Rattle.std.proofs.Common.{◌≤◌, ◌+◌, ◌-◌, ◌++◌, ◌∙◌, length, subst, sym, ap, ℕ, List, arith}
use Rattle.lines.proofs.Kept.{write_keeps, write_shows}
use Rattle.lines.proofs.text.Text.write.Goals as goal

pub invariant_of-self : goal.invariant_of-self
invariant_of-self g c =
    let more = c.args.more.now in
    let fits = subst (λ (t : List ℕ). length t + length more ≤ g.row.N) (sym c.self.view_is) c.requires in
    write_keeps g.row.N c.self.inside more c.copy_from_slice.new.self (c.self.inside.len + length more - c.self.inside.len)
    c.self.invariant c.copy_from_slice.ensures.after (omega arith) fits

pub returns : goal.returns
returns g c =
    let more = c.args.more.now in
    let fits = subst (λ (t : List ℕ). length t + length more ≤ g.row.N) (sym c.self.view_is) c.requires in
    write_shows g.row.N c.self.inside more c.copy_from_slice.new.self (c.self.inside.len + length more - c.self.inside.len)
    c.self.invariant c.copy_from_slice.ensures.after (omega arith) fits ∙
    ap (λ (t : List ℕ). t ++ more) c.self.view_is
