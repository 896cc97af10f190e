use Rattle.member_rules.specs.Kept.{rules_of}
use Rattle.run_journal.specs.Journal.{plan_of, past_of}
use Rattle.planned_calls.proofs.Calls.{makes_each, makes_planned}
use Rattle.planned_calls.proofs.journal_makes_calls.Goals as goal

pub returns-clause-planned : goal.returns-clause-planned
returns-clause-planned g c = makes_planned (rules_of g.O.Ordering) (plan_of c.args.journal.now) (past_of c.args.journal.now) c.plan.ensures.run

pub returns-clause-each : goal.returns-clause-each
returns-clause-each g c = makes_each (rules_of g.O.Ordering) (plan_of c.args.journal.now) (past_of c.args.journal.now) c.plan.ensures.run
