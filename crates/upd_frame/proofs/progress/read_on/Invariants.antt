use Rattle.std.proofs.Common.{◌≡◌, length}
use Rattle.upd_frame.specs.Progress.{weight}
use Rattle.upd_frame.proofs.Onward.{Stands}
use Rattle.upd_frame.proofs.progress.read_on.Given as goal

abbrev pub invariant-loop-next : goal.invariant-loop-next
invariant-loop-next l = Stands l.bytes l.at l.stage l.left

abbrev pub decreases-loop-next : goal.decreases-loop-next
decreases-loop-next l = weight l.stage
