-- The list that a shared journal stands for, and what is read of it.
use Rattle.std.specs.Prelude.{◌≡◌, ℕ, ◌-◌, ◌≤◌, List, [], ◌∷◌, map}
use Rattle.upd_base.specs.Plan.{Planned}
use Rattle.upd_base.specs.declared.event.Event.{Event}
use Rattle.live_group.specs.declared.recorded.Recorded.{Recorded}
use Rattle.live_group.specs.declared.recorded.Recorded.TheVariants.{Began, Made}

-- the plan first, and the events behind it
abbrev pub entries : Planned → List Event → List Recorded
entries plan events = Began plan ∷ map Made events

-- the events among entries
abbrev pub events_in : List Recorded → List Event
events_in [] = []
events_in (Began plan ∷ rest) = events_in rest
events_in (Made event ∷ rest) = event ∷ events_in rest

-- The places of events, counted from 0: each is one less among the events than among the entries, where the plan is first.
abbrev pub event_places : List ℕ → List ℕ
event_places own = map (λ place. place - 1) own

-- the entries are this plan and events of it
abbrev pub HasPlan : Planned → List Recorded → Type 0
HasPlan plan list = (events : List Event) × (list ≡ entries plan events)

-- no place among entries is the plan's
abbrev pub AreBehind : List ℕ → Type 0
AreBehind [] = Unit {0}
AreBehind (place ∷ rest) = (1 ≤ place) × AreBehind rest
