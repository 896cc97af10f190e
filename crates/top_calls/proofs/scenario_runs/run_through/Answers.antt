use Rattle.std.proofs.Common.{sym, subst, IfSome}
use Rattle.upd_base.specs.Edge.{Rose}
use Rattle.run_journal.specs.Journal.{plan_of, past_of}
use Rattle.planned_calls.specs.Calls.{HasNo, is_suspect}
use Rattle.top_calls.specs.Rehearsal.{IsRehearsalOf}
use Rattle.top_calls.proofs.Rehearsals.{complete, is_writing, rehearsal_is}
use Rattle.top_calls.proofs.scenario_runs.run_through.Goals as goal

pub returns-clause-rehearsal : goal.returns-clause-rehearsal
returns-clause-rehearsal g c =
    let made = c.rehearse-rehearsed in
    let plan = plan_of made.result.journal in
    let past = past_of made.result.journal in
    let seed = c.args.asked.seed in
    let status = c.finish.result.status in
    subst (λ o. IfSome o (λ j. IsRehearsalOf seed status (plan_of j) (past_of j))) (sym c.finish.ensures.journal)
    (rehearsal_is seed made.result.end status plan past c.keeps_laws.ensures made.ensures.full made.ensures.events c.finish.ensures.status)

pub returns-clause-complete : goal.returns-clause-complete
returns-clause-complete g c = λ without.
    let made = c.rehearse-rehearsed in
    let plan = plan_of made.result.journal in
    let past = past_of made.result.journal in
    let status = c.finish.result.status in
    let laws = c.keeps_laws.ensures in
    let run = rehearsal_is c.args.asked.seed made.result.end status plan past laws made.ensures.full made.ensures.events c.finish.ensures.status in
    complete status (Rose (g.K.Sink.faults c.args.sink.now) (g.K.Sink.faults c.finish.new.sink)) (is_writing made.result.end status c.finish.ensures.status) c.finish.ensures.cause
    (λ e. run.suspected e (laws.trusting (subst (HasNo is_suspect) (sym made.ensures.plan) without)))
