use Rattle.std.proofs.Common.{◌≡◌}
use Rattle.turn_lock.specs.Seat.{IsOneSeat}
use Rattle.turn_lock.proofs.lock.TurnLock.draw.Given as goal

abbrev pub invariant-loop : goal.invariant-loop
invariant-loop g l = IsOneSeat l.initial.seat l.seat × (l.seat.me ≡ l.initial.seat.me)
