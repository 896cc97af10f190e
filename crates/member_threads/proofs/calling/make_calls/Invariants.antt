use Rattle.std.proofs.Common.{◌≡◌}
use Rattle.turn_lock.specs.Lists.{IsPrefix}
use Rattle.turn_lock.specs.Pass.{parts}
use Rattle.live_group.specs.Pass.{events_seen}
use Rattle.member_threads.specs.Worker.{IsWorkersPass}
use Rattle.member_threads.proofs.calling.make_calls.Given as goal

abbrev pub invariant-loop-number : goal.invariant-loop-number
invariant-loop-number g l = record { pass : IsWorkersPass l.group (λ _. ⊥) l.pass; parts : parts l.pass ≡ parts l.initial.pass; seen : IsPrefix (events_seen l.initial.pass) (events_seen l.pass) }
