use Rattle.std.proofs.Common.{rules}
use Rattle.turn_lock.proofs.Moves.{joins, compares_at}
use Rattle.turn_lock.proofs.lock.TurnLock.join_seats.Goals as goal

pub join_seat-requires : goal.join_seat-requires
join_seat-requires g c = (search rules, search rules, search rules, search rules, joins _ _ _ _ _ _ c.requires.parts c.requires.idle.0 c.requires.idle.1)

pub load-requires : goal.load-requires
load-requires g c = (search rules, search rules, compares_at _ _ _ _ c.args.seat.now.me c.args.other.me.0 _ c.join_seat.ensures.2 c.requires.parts)
