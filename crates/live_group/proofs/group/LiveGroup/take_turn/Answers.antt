use Rattle.live_group.proofs.Entries.{begin_entries}
use Rattle.live_group.proofs.group.LiveGroup.take_turn.Goals as goal

pub returns-clause-goes_on : goal.returns-clause-goes_on
returns-clause-goes_on g c = begin_entries _ _ _ c.turn-value.ensures.begins
