use Rattle.std.proofs.Common.{sym, ap, ◌∙◌, subst}
use Rattle.run_journal.specs.Journal.{plan_of, events_of}
use Rattle.turn_lock.specs.Pass.{seen, own, noted}
use Rattle.live_group.specs.SharedGroup.{plan_shared}
use Rattle.live_group.specs.Recorded.{entries, events_in, event_places, AreBehind, HasPlan}
use Rattle.live_group.proofs.Entries.{events_made, adds_noted}
use Rattle.live_group.proofs.OwnPlaces.{behind_new, places_after, rise_events}
use Rattle.live_group.proofs.group.LiveGroup.end_turn.Goals as goal

pub finish-requires-clause-adds : goal.finish-requires-clause-adds
finish-requires-clause-adds g c =
    adds_noted _ _ _ _ _ c.requires.noted c.requires.adds (ap (λ j. plan_of j) c.of-value.ensures) (ap (λ j. events_of j) c.of-value.ensures)

pub returns-clause-of : goal.returns-clause-of
returns-clause-of g c =
    let f = c.finish.ensures in
    let same = ap (λ j. plan_of j) c.of-value.ensures ∙ c.requires.plan in
    let plan : HasPlan (plan_shared c.args.self.now) (seen c.finish.new.pass) = (events_of c.of-value.result.journal, f.seen ∙ ap (λ p. entries p (events_of c.of-value.result.journal)) same) in
    let behind : AreBehind (own c.finish.new.pass) = subst AreBehind (sym f.own) (behind_new _ _ (entries (plan_of c.of-value.result.journal) (events_of c.of-value.result.journal)) _ _ c.requires.noted c.requires.behind) in record {
      lock = f.of;
      idle = f.idle;
      plan = plan;
      behind = behind;
      rise = rise_events _ _ _ plan behind c.finish.new.pass.places;
    }

pub returns-clause-seen : goal.returns-clause-seen
returns-clause-seen g c = ap events_in c.finish.ensures.seen ∙ (events_made _ ∙ ap (λ j. events_of j) c.of-value.ensures)

pub returns-clause-places : goal.returns-clause-places
returns-clause-places g c =
    ap event_places c.finish.ensures.own ∙ places_after _ (noted c.args.pass.now) (plan_of c.args.journal) (plan_of c.of-value.result.journal) _ _ c.requires.noted (ap (λ j. events_of j) c.of-value.ensures)
