use Rattle.top_calls.proofs.Serves.{plan_served, served}
use Rattle.top_calls.proofs.journal.opening.Goals as goal

pub begin-requires-clause-first_served : goal.begin-requires-clause-first_served
begin-requires-clause-first_served c _ = served c.args.plan.first

pub begin-requires-clause-served : goal.begin-requires-clause-served
begin-requires-clause-served c _ = plan_served c.args.plan
