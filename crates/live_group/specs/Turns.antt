-- What a call that makes an event does to a pass.
use Rattle.std.specs.Prelude.{◌≡◌, Option, [], ◌∷◌, ◌++◌, length, reverse}
use Rattle.upd_base.specs.declared.event.Event.{Event}
use Rattle.run_journal.specs.Causes.{IsMade}
use Rattle.turn_lock.specs.declared.kept.Kept.{Ghosts}
use Rattle.turn_lock.specs.declared.pass.Pass.{Pass}
use Rattle.turn_lock.specs.Lists.{IsPrefix}
use Rattle.live_group.specs.declared.recorded.Recorded.{Recorded}
use Rattle.live_group.specs.Pass.{events_seen, past_seen, past_before, places}

-- One event was made. Its past goes on from what the pass had seen, it is the newest that the pass has seen, and its
-- place is one more of the pass's own.
pub record MakesOne {T : Type 0} {K : Ghosts T Recorded} (event : Option Event) (old new : Pass T Recorded K) : Type 0 where
  pub goes_on : IsPrefix (events_seen old) (reverse (past_before new))
  pub made : IsMade event (past_before new) (past_seen new)
  pub place : places new ≡ places old ++ length (past_before new) ∷ []
