use Rattle.group_fulfilment.proofs.Fulfilled.{fulfils_runs}
use Rattle.group_fulfilment.proofs.settled_quiet_runs_are_fulfilled.Goals as goal

pub returns : goal.returns
returns c = fulfils_runs
