use Rattle.group_order.proofs.Ordered.{orders_runs}
use Rattle.group_order.proofs.runs_are_ordered.Goals as goal

pub returns : goal.returns
returns c = orders_runs
