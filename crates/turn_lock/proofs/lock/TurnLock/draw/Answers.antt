use Rattle.std.proofs.Common.{rules, arith}
use Rattle.turn_lock.proofs.Moves.{draws_at}
use Rattle.turn_lock.proofs.lock.TurnLock.draw.Goals as goal

pub compare_exchange-found-requires : goal.compare_exchange-found-requires
compare_exchange-found-requires g c = (search rules, search rules, draws_at _ _ _ _ c.args.seat.now.me _ _ c.loop.invariant.1 c.requires.parts c.requires.idle (omega arith))
