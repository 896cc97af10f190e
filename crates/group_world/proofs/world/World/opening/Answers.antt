use Rattle.std.proofs.Common.{◌∙◌, arith, map}
use Rattle.std.proofs.lemmas.List.{length-map}
use Rattle.upd_base.proofs.PlanFacts.{plan_facts}
use Rattle.member_core.specs.Member.{kept_by}
use Rattle.group_world.proofs.Openings.{is_opening, opened, stands_opened}
use Rattle.group_world.proofs.world.World.opening.Goals as goal

pub new-requires : goal.new-requires
new-requires g c =
    let f = (plan_facts c.args.plan.now c.keeps_limits.ensures).few in
    let e = c.members.ensures in
    omega (arith, f, e)

pub returns-clause-of_plan : goal.returns-clause-of_plan
returns-clause-of_plan g c =
    let h = c.in_ok-fresh_members.ensures in
    let n = c.in_ok-new.ensures in
    opened g.O.Ordering c.args.plan.now _
    (is_opening g.O.Ordering c.args.plan.now c.members.result c.threads.result (map (λ m. kept_by m) c.in_ok-fresh_members.field-0.items) c.in_ok-new.field-0 c.in_ok-no_calls.field-0.items c.members.ensures c.threads.ensures
    c.keeps_limits.ensures c.requires.first_served c.requires.served (length-map c.in_ok-fresh_members.field-0.items (λ m. kept_by m) ∙ h.many) h.seats h.stand n.members n.empty c.in_ok-no_calls.ensures)

pub returns-clause-stands : goal.returns-clause-stands
returns-clause-stands g c =
    let h = c.in_ok-fresh_members.ensures in
    let n = c.in_ok-new.ensures in
    stands_opened g.O.Ordering c.args.plan.now _
    (is_opening g.O.Ordering c.args.plan.now c.members.result c.threads.result (map (λ m. kept_by m) c.in_ok-fresh_members.field-0.items) c.in_ok-new.field-0 c.in_ok-no_calls.field-0.items c.members.ensures c.threads.ensures
    c.keeps_limits.ensures c.requires.first_served c.requires.served (length-map c.in_ok-fresh_members.field-0.items (λ m. kept_by m) ∙ h.many) h.seats h.stand n.members n.empty c.in_ok-no_calls.ensures)
