use Rattle.std.proofs.Common.{length, ◌-◌}
use Rattle.number_runs.proofs.runs.ends_before.Given as goal

abbrev pub decreases-loop-at : goal.decreases-loop-at
decreases-loop-at l = length l.runs - l.at
