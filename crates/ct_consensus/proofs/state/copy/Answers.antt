use Rattle.std.proofs.Common.{subst}
use Rattle.ct_consensus.specs.Stands.{StateFits}
use Rattle.ct_consensus.proofs.state.copy.Goals as goal

pub returns-in_ok-copy-in-Undecided-clause-fits : goal.returns-in_ok-copy-in-Undecided-clause-fits
returns-in_ok-copy-in-Undecided-clause-fits c = λ n fits. c.in_ok-copy-in-Undecided.ensures.fits n (subst (StateFits n) c.in-Undecided.is fits)
