use Rattle.std.proofs.Common.{sym, subst}
use Rattle.planned_calls.specs.Calls.{HasNo, is_suspect}
use Rattle.top_calls.proofs.scenario_runs.run.Goals as goal

pub returns-in-Ok-clause-complete : goal.returns-in-Ok-clause-complete
returns-in-Ok-clause-complete g c = λ without holds. c.run_through.ensures.complete (subst (HasNo is_suspect) (sym c.in-Ok.ensures.plan) without) holds
