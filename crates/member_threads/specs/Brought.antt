-- What the events at some places took from a link.
use Rattle.std.specs.Prelude.{ℕ, List, [], Option, Some, None, take, reverse, slice_get}
use Rattle.std.specs.List.{flat_map}
use Rattle.upd_base.specs.Plan.{Planned}
use Rattle.upd_base.specs.declared.frame.Frame.{Frame}
use Rattle.upd_base.specs.declared.event.Event.{Event}
use Rattle.group_run.specs.Group.{Rules}
use Rattle.group_run.specs.Run.{Events}
use Rattle.line_rules.specs.Received.{taken_by}

-- the frame that an event after these took from a link, where there is one
abbrev pub taken_where : Rules → Planned → Events → Option Event → ℕ → ℕ → List Frame
taken_where rules plan past None from to = []
taken_where rules plan past (Some event) from to = taken_by rules plan past event from to

-- the frame that the event at a place took from a link, where the events stand in the order in which they were made
abbrev pub frame_at : Rules → Planned → List Event → ℕ → ℕ → ℕ → List Frame
frame_at rules plan events from to place = taken_where rules plan (reverse (take place events)) (slice_get events place) from to

-- the frames that the events at these places took from a link
abbrev pub brought : Rules → Planned → List Event → List ℕ → ℕ → ℕ → List Frame
brought rules plan events own from to = flat_map (frame_at rules plan events from to) own
