use Rattle.std.proofs.Common.{◌≡◌, arith, map, Some}
use Rattle.std.specs.Prelude.{slice_get}
use Rattle.upd_base.specs.Plan.{plan_of}
use Rattle.upd_base.proofs.PlanFacts.{plan_facts, thread_within}
use Rattle.upd_base.proofs.plan.Plan.steps.Goals as goal

pub overflow_cast-result : goal.overflow_cast-result
overflow_cast-result c =
    let p = c.self.inside in
    let q = plan_of p.members p.first (map (λ t. t.items) p.threads.items) in
    let found : slice_get (map (λ t. t.items) p.threads.items) c.args.thread ≡ Some c.thread_at.result.now =
    rw (← c.as_slice.ensures.value) c.thread_at.ensures in
    let l = thread_within q (plan_facts q c.self.invariant) c.args.thread c.thread_at.result.now found in
    grind (arith, l)
