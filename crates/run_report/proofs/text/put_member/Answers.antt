use Rattle.std.proofs.Common.{arith}
use Rattle.upd_base.proofs.PlanFacts.{open_facts}
use Rattle.run_journal.specs.Journal.{plan_of}
use Rattle.run_report.proofs.text.put_member.Goals as goal

pub member_at-member-requires : goal.member_at-member-requires
member_at-member-requires g c = let f = (open_facts (plan_of c.args.journal.now) c.plan.ensures.run.of_plan).few in let l = c.requires in omega arith
