use Rattle.std.proofs.Common.{◌∙◌, ◌++◌, ap}
use Rattle.std.proofs.lemmas.Result.{IfOk-weaker}
use Rattle.upd_base.specs.Plan.{steps_in}
use Rattle.std.specs.List.{sum_by}
use Rattle.run_journal.specs.Journal.{plan_of, events_of}
use Rattle.run_report.specs.Report.{counts_of}
use Rattle.run_report.proofs.Turned.{counts_turned}
use Rattle.run_report.proofs.counts.put_counts.Goals as goal

pub returns : goal.returns
returns g c =
    let j = c.args.journal.now in
    let is = c.plan-plan.ensures.value in
    IfOk-weaker c.put_lines.result _ _
    (λ _ e. counts_turned (plan_of j) (events_of j) c.args.out.now.items c.put_lines.new.out.items c.members.result c.planned.result
    (c.members.ensures ∙ ap (λ p. p.members) is) (c.planned.ensures ∙ ap (λ p. sum_by steps_in p.threads) is)
    (e ∙ ap (λ l. c.args.out.now.items ++ counts_of c.members.result c.planned.result l) c.events.ensures))
    c.put_lines.ensures
