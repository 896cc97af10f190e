use Rattle.std.proofs.Common.{arith}
use Rattle.std.proofs.lemmas.Grind.{common_steps}
use Rattle.upd_base.specs.Plan.{is_open, is_plan}
use Rattle.upd_base.proofs.Maps.{in_maps}
use Rattle.upd_base.proofs.plan.within_limits.Goals as goal

pub returns-then-not-all_fit : goal.returns-then-not-all_fit
unfolding is_plan is_open
returns-then-not-all_fit c = let m = in_maps c.args.members c.args.threads.now in grind (arith, common_steps, m.count, m.fit)

pub returns : goal.returns
unfolding is_plan is_open
returns c = let m = in_maps c.args.members c.args.threads.now in grind (arith, common_steps, m.count, m.fit, m.steps, m.changes)
