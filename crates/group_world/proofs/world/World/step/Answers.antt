use Rattle.std.proofs.Common.{◌∷◌, sym, subst}
use Rattle.group_world.specs.Seen.{seen_by}
use Rattle.group_world.specs.Stands.{Stands}
use Rattle.group_world.specs.Prepared.{IsAfter}
use Rattle.group_world.proofs.world.World.step.Goals as goal

pub returns-clause-of_plan : goal.returns-clause-of_plan
returns-clause-of_plan g c =
    let p = c.in_ok-prepared.ensures in
    p.of_plan (seen_by c.commit.new.self) (subst (λ s. IsAfter c.in_ok-prepared.prepared s (seen_by c.commit.new.self)) p.kept c.commit.ensures.after)

pub returns-clause-stands : goal.returns-clause-stands
returns-clause-stands g c past st short =
    let p = c.in_ok-prepared.ensures in
    subst (λ e. Stands g.O.Ordering c.args.plan.now (seen_by c.commit.new.self) (e ∷ past)) (sym c.commit.ensures.event)
    (p.stands past (seen_by c.commit.new.self) st short (subst (λ s. IsAfter c.in_ok-prepared.prepared s (seen_by c.commit.new.self)) p.kept c.commit.ensures.after))
