use Rattle.std.proofs.Common.{rules}
use Rattle.turn_lock.proofs.Moves.{hands_at}
use Rattle.turn_lock.proofs.lock.TurnLock.give_back.Goals as goal

pub fetch_add-finished-requires : goal.fetch_add-finished-requires
fetch_add-finished-requires g c = (search rules, search rules, hands_at _ _ _ _ c.args.seat.now.me _ _ c.exchange.ensures.3 c.requires.parts c.requires.turning c.requires.slots c.requires.adds)
