use Rattle.std.proofs.Common.{◌+◌, arith, []}
use Rattle.std.proofs.lemmas.List.Sums.{sum_by_more, sum_by-take-le}
use Rattle.std.proofs.lemmas.Option.{unwrap_or-slice_get}
use Rattle.upd_base.specs.Plan.{steps_in}
use Rattle.upd_base.proofs.PlanFacts.{plan_facts}
use Rattle.run_report.proofs.counts.planned.Goals as goal

pub loop-thread-preserved : goal.loop-thread-preserved
loop-thread-preserved c =
    let p = c.args.plan.now in
    let few = (plan_facts p c.keeps_limits.ensures).few_calls in
    let more = sum_by_more steps_in p.threads c.loop-thread.thread [] (let t = c.loop-thread-test.true in let e = c.threads-thread-end.ensures in omega arith) in
    let below = sum_by-take-le steps_in p.threads (c.loop-thread.thread + 1) in
    let is = c.loop-thread.invariant in
    let s = c.saturating_add-calls.ensures in
    let n = c.steps.ensures in
    let at = unwrap_or-slice_get p.threads c.loop-thread.thread [] in
    grind (arith, few, more, below, is, s, n, at)
