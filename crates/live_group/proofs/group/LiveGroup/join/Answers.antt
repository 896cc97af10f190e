use Rattle.std.proofs.Common.{sym, ap, ◌∙◌, subst}
use Rattle.turn_lock.specs.Pass.{seen, own}
use Rattle.live_group.specs.SharedGroup.{plan_shared}
use Rattle.live_group.specs.Recorded.{events_in, event_places, AreBehind, HasPlan}
use Rattle.live_group.proofs.Entries.{begin_events, events_longer, plan_longer}
use Rattle.live_group.proofs.OwnPlaces.{behind_merged, merged_down, rise_events}
use Rattle.live_group.proofs.group.LiveGroup.join.Goals as goal

pub returns-clause-of : goal.returns-clause-of
returns-clause-of g c =
    let j = c.join.ensures in
    let one = c.requires.of.0 in
    let other = c.requires.of.1 in
    let plan : HasPlan (plan_shared c.args.self.now) (seen c.join.new.pass) = subst (HasPlan (plan_shared c.args.self.now)) (sym j.seen) (plan_longer _ _ _ one.plan other.plan) in
    let behind : AreBehind (own c.join.new.pass) = subst AreBehind (sym j.own) (behind_merged _ _ one.behind other.behind) in record {
      lock = j.of;
      idle = j.idle;
      plan = plan;
      behind = behind;
      rise = rise_events _ _ _ plan behind c.join.new.pass.places;
    }

pub returns-clause-seen : goal.returns-clause-seen
returns-clause-seen g c = ap events_in c.join.ensures.seen ∙ events_longer (plan_shared c.args.self.now) _ _ c.requires.of.0.plan c.requires.of.1.plan

pub returns-clause-prefixes : goal.returns-clause-prefixes
returns-clause-prefixes g c = (begin_events _ _ c.join.ensures.prefixes.0, begin_events _ _ c.join.ensures.prefixes.1)

pub returns-clause-own : goal.returns-clause-own
returns-clause-own g c = ap event_places c.join.ensures.own ∙ merged_down _ _ c.requires.of.0.behind c.requires.of.1.behind
