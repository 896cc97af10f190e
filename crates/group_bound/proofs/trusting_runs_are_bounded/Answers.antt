use Rattle.group_bound.proofs.Bounded.{bounds_runs, settles_at_bound}
use Rattle.group_bound.proofs.trusting_runs_are_bounded.Goals as goal

pub returns : goal.returns
returns c = record { at_most = bounds_runs; settled = settles_at_bound }
