-- What contracts say of a pass of a shared group. Its parts are those of the lock.
use Rattle.std.specs.Prelude.{ℕ, List, reverse, drop}
use Rattle.upd_base.specs.declared.event.Event.{Event}
use Rattle.group_run.specs.Run.{Events}
use Rattle.turn_lock.specs.declared.kept.Kept.{Ghosts}
use Rattle.turn_lock.specs.declared.pass.Pass.{Pass}
use Rattle.turn_lock.specs.Pass.{seen, own}
use Rattle.live_group.specs.declared.recorded.Recorded.{Recorded}
use Rattle.live_group.specs.Recorded.{events_in, event_places}

module _ {T : Type 0} {K : Ghosts T Recorded} (pass : Pass T Recorded K) where
  -- the events that it has seen, a beginning of the journal's
  abbrev pub events_seen : List Event
  events_seen = events_in (seen pass)

  -- the same, the newest first
  abbrev pub past_seen : Events
  past_seen = reverse events_seen

  -- the past of the newest event that it has seen
  abbrev pub past_before : Events
  past_before = drop 1 past_seen

  -- the places, among the journal's events, of those that it, or a pass joined into it, made
  abbrev pub places : List ℕ
  places = event_places (own pass)
