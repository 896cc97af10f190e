use Rattle.planned_calls.proofs.Sends.{quiet_runs_deliver}
use Rattle.planned_calls.proofs.quiet_runs_deliver_sends.Goals as goal

pub returns : goal.returns
returns c = quiet_runs_deliver
