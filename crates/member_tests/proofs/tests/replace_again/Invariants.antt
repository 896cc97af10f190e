use Rattle.std.proofs.Common.{◌≡◌}
use Rattle.member_core.specs.Member.{kept_by}
use Rattle.member_tests.proofs.tests.replace_again.Given as goal

abbrev pub invariant-loop : goal.invariant-loop
invariant-loop l = (kept_by l.one).members ≡ 1
