use Rattle.group_fulfilment.proofs.Fulfilled.{fulfils_at_rest}
use Rattle.group_fulfilment.proofs.quiet_runs_at_rest_are_fulfilled.Goals as goal

pub returns : goal.returns
returns c = fulfils_at_rest
