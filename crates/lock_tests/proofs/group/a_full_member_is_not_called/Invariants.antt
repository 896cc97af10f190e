use Rattle.std.proofs.Common.{◌≡◌}
use Rattle.turn_lock.specs.Pass.{parts}
use Rattle.live_group.specs.SharedGroup.{IsPassOf}
use Rattle.lock_tests.proofs.group.a_full_member_is_not_called.Given as goal

abbrev pub invariant-loop-number : goal.invariant-loop-number
invariant-loop-number g l = record { of : IsPassOf l.group l.pass; parts : parts l.pass ≡ parts l.initial.pass }
