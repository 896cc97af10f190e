use Rattle.std.proofs.Common.{◌≡◌, ◌⊎◌, inl, IsSome}
use Rattle.upd_base.specs.Edge.{Rose}
use Rattle.planned_calls.specs.Calls.{HasNo, is_suspect}
use Rattle.top_calls.specs.Causes.{OrMemory}
use Rattle.top_calls.specs.Live.{AreFaithful, AreSteady, IsComplete, IsLied, IsRunStatus}
use Rattle.program_texts.specs.declared.status.Status.TheVariants as statuses
use Rattle.top_calls.proofs.Scenarios.{none_ends, none_kind, none_refused, none_run, none_there, plan_ends, plan_no_fault}
use Rattle.top_calls.proofs.line_runs.run_scenario.Goals as goal

pub returns-in-Ok-clause-scenario_only : goal.returns-in-Ok-clause-scenario_only
returns-in-Ok-clause-scenario_only g c =
    let status = c.run_plan.result.status in
    plan_no_fault (g.S.Source.left c.args.source.now) c.in-Ok.plan (λ f. OrMemory status (statuses.Scenario f) ⊎ (status ≡ statuses.SourceFailed)) c.in-Ok.ensures.from.0

pub returns-in-Ok-clause-run_only : goal.returns-in-Ok-clause-run_only
returns-in-Ok-clause-run_only g c =
    let status = c.run_plan.result.status in
    plan_ends (g.S.Source.left c.args.source.now) c.in-Ok.plan (λ q. IsRunStatus status ⊎ (status ≡ statuses.SourceFailed)) c.in-Ok.ensures.from.0 (inl c.run_plan.ensures.status)

pub returns-in-Ok-clause-complete : goal.returns-in-Ok-clause-complete
returns-in-Ok-clause-complete g c =
    let lines = c.run_plan.result.lines.items in
    plan_ends (g.S.Source.left c.args.source.now) c.in-Ok.plan
    (λ q. HasNo is_suspect q → (Rose (g.S.Source.faults c.args.source.now) (g.S.Source.faults c.plan_from.new.source) → ⊥) → (Rose (g.K.Sink.faults c.args.sink.now) (g.K.Sink.faults c.run_plan.new.sink) → ⊥)
    → AreSteady g.M.Line.Line q.members (g.M.LineMaker.faults c.args.lines.now) (g.M.LineMaker.faults c.run_plan.new.lines) lines → IsComplete g.M.Line.Line c.run_plan.result.status q.members lines)
    c.in-Ok.ensures.from.0 (λ without calm holds steady. c.run_plan.ensures.complete without holds steady)

pub returns-in-Err-clause-kind : goal.returns-in-Err-clause-kind
returns-in-Err-clause-kind g c = none_kind c.in-Err.status c.refuse.result.status _ _ _ c.in-Err.ensures.from c.refuse.ensures.status

pub returns-in-Err-clause-scenario_only : goal.returns-in-Err-clause-scenario_only
returns-in-Err-clause-scenario_only g c =
    none_refused c.in-Err.status c.refuse.result.status (g.S.Source.faults c.args.source.now) (g.S.Source.faults c.plan_from.new.source) (g.S.Source.left c.args.source.now)
    (g.S.Source.left c.plan_from.new.source) c.in-Err.ensures.from c.refuse.ensures.status

pub returns-in-Err-clause-run_only : goal.returns-in-Err-clause-run_only
returns-in-Err-clause-run_only g c =
    none_run c.in-Err.status c.refuse.result.status (g.S.Source.faults c.args.source.now) (g.S.Source.faults c.plan_from.new.source) (g.S.Source.left c.args.source.now) c.in-Err.ensures.from c.refuse.ensures.status

pub returns-in-Err-clause-there : goal.returns-in-Err-clause-there
returns-in-Err-clause-there g c =
    none_there c.in-Err.status c.refuse.result.status (g.S.Source.faults c.args.source.now) (g.S.Source.faults c.plan_from.new.source) (g.S.Source.left c.args.source.now) (IsSome c.refuse.result.journal)
    c.in-Err.ensures.from c.refuse.ensures.status

pub returns-in-Err-clause-complete : goal.returns-in-Err-clause-complete
returns-in-Err-clause-complete g c =
    let lines = c.refuse.result.lines.items in
    none_ends c.in-Err.status c.refuse.result.status (g.S.Source.faults c.args.source.now) (g.S.Source.faults c.plan_from.new.source) (g.S.Source.left c.args.source.now) (g.S.Source.left c.plan_from.new.source)
    (Rose (g.K.Sink.faults c.args.sink.now) (g.K.Sink.faults c.refuse.new.sink)) (λ q. AreSteady g.M.Line.Line q.members (g.M.LineMaker.faults c.args.lines.now) (g.M.LineMaker.faults c.args.lines.now) lines)
    (λ q. AreFaithful g.M.Line.Line q.members lines) (IsLied c.refuse.result.status) c.in-Err.ensures.from c.refuse.ensures.status
