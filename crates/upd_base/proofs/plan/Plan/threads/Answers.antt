use Rattle.std.proofs.Common.{arith, map}
use Rattle.std.proofs.lemmas.List.{length-map}
use Rattle.upd_base.specs.Plan.{plan_of}
use Rattle.upd_base.proofs.PlanFacts.{plan_facts}
use Rattle.upd_base.proofs.plan.Plan.threads.Goals as goal

pub overflow_cast-result : goal.overflow_cast-result
overflow_cast-result c =
    let p = c.self.inside in
    let f = plan_facts (plan_of p.members p.first (map (λ t. t.items) p.threads.items)) c.self.invariant in
    let l = f.few_threads in
    let m = length-map p.threads.items (λ t. t.items) in
    let e = c.len.ensures in
    grind (arith, l, m, e)
