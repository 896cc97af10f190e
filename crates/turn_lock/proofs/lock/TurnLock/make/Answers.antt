use Rattle.turn_lock.proofs.Moves.{starts_at}
use Rattle.turn_lock.proofs.lock.TurnLock.make.Goals as goal

pub new-requires : goal.new-requires
new-requires g c = starts_at g.T.Kept.list c.args.value _ _ _ c.new-slots.ensures.items c.in_default.ensures.items c.of-about.ensures
