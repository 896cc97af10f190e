use Rattle.upd_base.specs.Edge.{Rose}
use Rattle.top_calls.proofs.Scenarios.{none_complete, none_refused, plan_complete, plan_written}
use Rattle.top_calls.proofs.scenario_runs.rehearse_scenario.Goals as goal

pub returns-in-Ok-clause-run_only : goal.returns-in-Ok-clause-run_only
returns-in-Ok-clause-run_only g c = plan_written (g.S.Source.left c.args.source.now) c.run.result.status c.run.ensures.status

pub returns-in-Ok-clause-complete : goal.returns-in-Ok-clause-complete
returns-in-Ok-clause-complete g c =
    plan_complete (g.S.Source.left c.args.source.now) c.in-Ok.plan c.run.result.status (Rose (g.S.Source.faults c.args.source.now) (g.S.Source.faults c.plan_from.new.source))
    (Rose (g.K.Sink.faults c.args.sink.now) (g.K.Sink.faults c.run.new.sink)) c.in-Ok.ensures.from.0 c.run.ensures.complete

pub returns-in-Err-clause-complete : goal.returns-in-Err-clause-complete
returns-in-Err-clause-complete g c =
    none_complete c.in-Err.status c.refuse.result.status (g.S.Source.faults c.args.source.now) (g.S.Source.faults c.plan_from.new.source) (g.S.Source.left c.args.source.now)
    (g.S.Source.left c.plan_from.new.source) (Rose (g.K.Sink.faults c.args.sink.now) (g.K.Sink.faults c.refuse.new.sink)) c.in-Err.ensures.from c.refuse.ensures.status

pub returns-in-Err-clause-scenario_only : goal.returns-in-Err-clause-scenario_only
returns-in-Err-clause-scenario_only g c =
    none_refused c.in-Err.status c.refuse.result.status (g.S.Source.faults c.args.source.now) (g.S.Source.faults c.plan_from.new.source) (g.S.Source.left c.args.source.now)
    (g.S.Source.left c.plan_from.new.source) c.in-Err.ensures.from c.refuse.ensures.status
