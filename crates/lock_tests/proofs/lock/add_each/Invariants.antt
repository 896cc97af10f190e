use Rattle.std.proofs.Common.{◌≡◌}
use Rattle.turn_lock.specs.Pass.{parts, IsIdle}
use Rattle.turn_lock.specs.TurnLock.{IsPassOf}
use Rattle.lock_tests.proofs.lock.add_each.Given as goal

abbrev pub invariant-loop-turn : goal.invariant-loop-turn
invariant-loop-turn g l = record {
  of : IsPassOf l.lock l.pass;
  idle : IsIdle l.pass;
  parts : parts l.pass ≡ parts l.initial.pass;
}
