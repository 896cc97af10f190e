use Rattle.group_world.specs.Seen.{seen_by}
use Rattle.run_journal.specs.Journal.{plan_of, past_of}
use Rattle.run_journal.proofs.Reading.{run_of}
use Rattle.run_journal.proofs.journal.Journal.plan.Goals as goal

pub returns-clause-run : goal.returns-clause-run
returns-clause-run g c = let j = c.args.self.now in run_of g.O.Ordering (plan_of j) (seen_by j.world) (past_of j) j.stands
