use Rattle.std.proofs.Common.{◌≡◌}
use Rattle.turn_lock.specs.Pass.{parts}
use Rattle.live_group.specs.SharedGroup.{IsPassOf}
use Rattle.lock_tests.proofs.group.threads.receive_each.Given as goal

abbrev pub invariant-loop-link : goal.invariant-loop-link
invariant-loop-link g l = record { of : IsPassOf l.group l.pass; parts : parts l.pass ≡ parts l.initial.pass }
