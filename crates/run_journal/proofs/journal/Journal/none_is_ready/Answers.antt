use Rattle.std.proofs.Common.{arith}
use Rattle.upd_base.proofs.PlanFacts.{plan_facts}
use Rattle.run_journal.specs.Journal.{plan_of}
use Rattle.run_journal.proofs.journal.Journal.none_is_ready.Goals as goal

pub member_at-requires : goal.member_at-requires
member_at-requires g c = let j = c.args.self.now in let f = plan_facts (plan_of j) j.of_plan.of_plan in omega (arith, f.few, c.members-i-end.ensures)
