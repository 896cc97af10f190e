use Rattle.module_binding.proofs.module.ModuleOrdering.copy.Goals as goal

pub returns-in_ok-copy-in-Consensus-clause-stands : goal.returns-in_ok-copy-in-Consensus-clause-stands
returns-in_ok-copy-in-Consensus-clause-stands c = rw c.in-Consensus.is c.in_ok-copy-in-Consensus.ensures.stands
