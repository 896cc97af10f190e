use Rattle.std.proofs.Common.{rules}
use mathlib.Core.Option.{none}
use Rattle.atomic_table.specs.Table.{step}
use Rattle.turn_lock.proofs.Moves.{looks_at, holds_slot}
use Rattle.turn_lock.proofs.lock.TurnLock.take.Goals as goal

pub load-served-requires : goal.load-served-requires
load-served-requires g c = (search rules, search rules, looks_at _ _ _ _ c.args.seat.now.me _ _ c.loop.invariant.1 c.requires.parts c.requires.waits)

pub exchange-requires : goal.exchange-requires
exchange-requires g c = (search rules, holds_slot g.T.Kept.list (step 1 1 0 0 none) c.args.seat.now.me _ _ _ _ c.loop.invariant.1 c.load-served.ensures.2 c.requires.waits c.requires.slots c.if-served-ticket.true)
