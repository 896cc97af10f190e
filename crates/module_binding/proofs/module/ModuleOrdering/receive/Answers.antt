use Rattle.module_binding.proofs.module.ModuleOrdering.receive.Goals as goal

pub returns-in-Consensus-clause-stands : goal.returns-in-Consensus-clause-stands
returns-in-Consensus-clause-stands c = rw c.in-Consensus.is c.receive-in-Consensus.ensures.stands

pub returns-in-Consensus-clause-sent : goal.returns-in-Consensus-clause-sent
returns-in-Consensus-clause-sent c = rw c.in-Consensus.is c.receive-in-Consensus.ensures.sent

pub returns-in-Consensus-clause-delivered : goal.returns-in-Consensus-clause-delivered
returns-in-Consensus-clause-delivered c = rw c.in-Consensus.is c.receive-in-Consensus.ensures.delivered
