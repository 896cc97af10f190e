use Rattle.run_journal.specs.Journal.{plan_of, past_of}
use Rattle.planned_calls.proofs.Calls.{quiet, trusting}
use Rattle.planned_calls.proofs.journal_is_calm.Goals as goal

pub returns-clause-trusting : goal.returns-clause-trusting
returns-clause-trusting g c = trusting (plan_of c.args.journal.now) (past_of c.args.journal.now)

pub returns-clause-quiet : goal.returns-clause-quiet
returns-clause-quiet g c = quiet (plan_of c.args.journal.now) (past_of c.args.journal.now)
