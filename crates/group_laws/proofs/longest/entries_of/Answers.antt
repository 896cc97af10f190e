use Rattle.std.proofs.Common.{arith}
use Rattle.upd_base.proofs.PlanFacts.{open_facts}
use Rattle.run_journal.specs.Journal.{plan_of}
use Rattle.group_laws.proofs.longest.entries_of.Goals as goal

pub returns-in-None : goal.returns-in-None
returns-in-None g c = absurd (let f = (open_facts (plan_of c.args.journal.now) c.plan.ensures.run.of_plan).few in let r = c.requires in let n = c.in-None.ensures.none in omega arith)
