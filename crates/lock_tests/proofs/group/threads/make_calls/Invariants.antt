use Rattle.std.proofs.Common.{◌≡◌}
use Rattle.turn_lock.specs.Pass.{parts}
use Rattle.live_group.specs.SharedGroup.{IsPassOf}
use Rattle.lock_tests.proofs.group.threads.make_calls.Given as goal

abbrev pub invariant-loop : goal.invariant-loop
invariant-loop g l = record { of : IsPassOf l.group l.pass; parts : parts l.pass ≡ parts l.initial.pass }
