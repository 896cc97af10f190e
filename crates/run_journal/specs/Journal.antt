-- What is seen of a journal: its plan, and its events.
use Rattle.std.specs.Prelude.{List, reverse}
use Rattle.order_trait.specs.declared.ordering.Ordering.{Ghosts}
use Rattle.upd_base.specs.Plan.{Planned}
use Rattle.upd_base.specs.declared.event.Event.{Event}
use Rattle.group_run.specs.Run.{Events}
use Rattle.run_journal.specs.declared.journal.Journal.{Journal}

abbrev pub plan_of : {O : Type 0} {G : Ghosts O} → Journal O G → Planned
plan_of j = j.plan

-- the events in the order in which they were made
abbrev pub events_of : {O : Type 0} {G : Ghosts O} → Journal O G → List Event
events_of j = j.events.items

-- the events, the newest first
abbrev pub past_of : {O : Type 0} {G : Ghosts O} → Journal O G → Events
past_of j = reverse j.events.items
