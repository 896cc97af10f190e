use Rattle.upd_base.proofs.PlanFacts.{plan_facts}
use Rattle.journal_file.proofs.Replaying.{no_member}
use Rattle.journal_file.proofs.replay.member_of.Goals as goal

pub returns-clause-none : goal.returns-clause-none
returns-clause-none c = no_member c.new.result c.args.plan.now.members c.args.number (plan_facts c.args.plan.now c.keeps_limits.ensures).few c.new.ensures.none
