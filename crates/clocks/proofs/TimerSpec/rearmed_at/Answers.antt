-- The law holds of whatever equals the rule.
use Rattle.std.proofs.Common.{rules}
use Rattle.clocks.proofs.Rearming.{rearmed_law}
use Rattle.clocks.proofs.TimerSpec.rearmed_at.Goals as goal

pub returns-in-AfterBoot-clause-law : goal.returns-in-AfterBoot-clause-law
returns-in-AfterBoot-clause-law c = rearmed_law c.args.self c.args.recorded c.args.now (search rules)

pub returns-in-AtPersistentTime-clause-law : goal.returns-in-AtPersistentTime-clause-law
returns-in-AtPersistentTime-clause-law c = rearmed_law c.args.self c.args.recorded c.args.now (search rules)
