use Rattle.module_binding.proofs.module.ModuleOrdering.suspect.Goals as goal

pub returns-in-Consensus-clause-stands : goal.returns-in-Consensus-clause-stands
returns-in-Consensus-clause-stands c = rw c.in-Consensus.is c.suspect-in-Consensus.ensures.stands

pub returns-in-Consensus-clause-sent : goal.returns-in-Consensus-clause-sent
returns-in-Consensus-clause-sent c = rw c.in-Consensus.is c.suspect-in-Consensus.ensures.sent
