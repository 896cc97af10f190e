use Rattle.std.proofs.Common.{ap, ◌∙◌}
use Rattle.run_journal.specs.Journal.{plan_of}
use Rattle.live_group.specs.SharedGroup.{plan_shared}
use Rattle.live_group.specs.Recorded.{event_places}
use Rattle.live_group.proofs.Entries.{begin_entries, opening_events}
use Rattle.live_group.proofs.OwnPlaces.{new_event_places}
use Rattle.live_group.proofs.group.LiveGroup.close.Goals as goal

pub returns-clause-seen : goal.returns-clause-seen
returns-clause-seen g c = begin_entries _ _ _ c.close-journal.ensures.seen

pub returns-clause-opening : goal.returns-clause-opening
returns-clause-opening g c = opening_events _ _ _ _ c.close-journal.ensures.opening

pub returns-clause-own : goal.returns-clause-own
returns-clause-own g c = ap event_places c.close-journal.ensures.own ∙ new_event_places (plan_shared c.args.self) (plan_of c.close-journal.result.journal) _ _
