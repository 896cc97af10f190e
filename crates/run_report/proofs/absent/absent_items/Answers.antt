use Rattle.std.proofs.lemmas.Result.{IfOk-weaker}
use Rattle.member_rules.specs.Kept.{rules_of}
use Rattle.run_journal.specs.Journal.{plan_of, past_of, events_of}
use Rattle.run_report.proofs.Accepting.{absent_accepted, absent_are}
use Rattle.run_report.proofs.absent.absent_items.Goals as goal

pub returns-clause-items : goal.returns-clause-items
returns-clause-items g c =
    let j = c.args.journal.now in
    IfOk-weaker c.absent_from.result _ _
    (λ v e. absent_are (rules_of g.O.Ordering) (plan_of j) c.plan.result.now c.plan-2.result.now (events_of j) c.events.result.now c.longest_log.result.now c.in_ok-accepted.accepted.items
    c.as_slice.result.now c.in_ok-sorted.sorted.items c.as_slice-2.result.now v.items c.members.result
    c.plan.ensures.value c.plan-2.ensures.value c.events.ensures c.longest_log.ensures c.in_ok-accepted.ensures c.as_slice.ensures.value c.members.ensures
    c.in_ok-sorted.ensures c.as_slice-2.ensures.value e)
    c.absent_from.ensures

pub returns-clause-accepted : goal.returns-clause-accepted
returns-clause-accepted g c =
    let j = c.args.journal.now in
    IfOk-weaker c.absent_from.result _ _ (λ v e. absent_accepted (rules_of g.O.Ordering) (plan_of j) (past_of j) v.items e) (returns-clause-items g c)
