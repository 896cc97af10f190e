use Rattle.std.proofs.Common.{◌≡◌}
use Rattle.member_core.specs.Member.{kept_by}
use Rattle.member_tests.proofs.events.make_all.Given as goal

abbrev pub invariant-loop-event : goal.invariant-loop-event
invariant-loop-event l = (kept_by l.one).members ≡ l.n
