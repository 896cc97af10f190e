use Rattle.consensus_fulfilment.proofs.Fulfil.{fulfilment}
use Rattle.consensus_fulfilment.proofs.trusting_runs_deliver.Goals as goal

pub returns : goal.returns
returns c = record { fulfilment = fulfilment }
