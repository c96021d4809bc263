-- The byte takes the place of a zero.
use Rattle.std.proofs.Common.{◌<◌, length, subst, sym, ℕ, List}
use Rattle.lines.proofs.Kept.{push_kept}
use Rattle.lines.proofs.text.Text.push.Goals as goal

pub invariant_of-self : goal.invariant_of-self
invariant_of-self g c =
    push_kept g.row.N c.self.inside c.args.byte c.self.invariant (subst (λ (t : List ℕ). length t < g.row.N) (sym c.self.view_is) c.requires)
