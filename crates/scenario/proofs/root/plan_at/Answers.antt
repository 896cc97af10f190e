use Rattle.std.proofs.Common.{◌≡◌, sym, ap, ◌∙◌, None, Some, cond, map}
use Rattle.upd_base.specs.Plan.{plan_of, plan_where_it_fits}
use Rattle.upd_base.proofs.Maps.{is_plan_within}
use Rattle.scenario.proofs.root.plan_at.Goals as goal

pub unreachable-requires : goal.unreachable-requires
unreachable-requires c =
    let w = c.in_ok-threads.ensures in
    let fits = is_plan_within c.in_ok-members.members c.in_ok-first.first c.in_ok-threads.threads.items c.in_ok-members.ensures.some c.in_ok-members.ensures.few c.in_ok-first.ensures.fits w.some w.most w.within.fit w.within.steps w.within.changes in
    let p = plan_of c.in_ok-members.members c.in_ok-first.first (map (λ t. t.items) c.in_ok-threads.threads.items) in
    let there : plan_where_it_fits p ≡ Some p = ap (λ b. cond b (Some p) None) fits in
    let no : None ≡ Some p = sym c.in-None.is ∙ c.new.ensures ∙ there in
    cc
