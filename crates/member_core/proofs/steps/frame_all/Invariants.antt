use Rattle.std.proofs.Common.{◌≡◌, ◌++◌, length}
use Rattle.group_run.specs.Turn.{framed}
use Rattle.member_core.proofs.steps.frame_all.Given as goal

abbrev pub invariant-loop-to : goal.invariant-loop-to
invariant-loop-to l = l.sent.items ++ framed l.version l.bodies ≡ l.fn.sent.items ++ framed l.version l.fn.bodies

abbrev pub decreases-loop-to : goal.decreases-loop-to
decreases-loop-to l = length l.bodies
