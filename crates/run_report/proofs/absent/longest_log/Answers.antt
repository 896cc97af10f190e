use Rattle.std.proofs.Common.{arith}
use Rattle.upd_base.proofs.PlanFacts.{open_facts}
use Rattle.run_journal.specs.Journal.{plan_of}
use Rattle.run_report.proofs.absent.longest_log.Goals as goal

pub member_at-requires : goal.member_at-requires
member_at-requires g c = let f = (open_facts (plan_of c.args.journal.now) c.plan.ensures.run.of_plan).few in let l = c.canon.ensures.within in omega arith
