use Rattle.consensus_bound.proofs.Bound.{bound}
use Rattle.consensus_bound.proofs.trusting_runs_are_bounded.Goals as goal

pub returns : goal.returns
returns c = record { bound = bound }
