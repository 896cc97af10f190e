use Rattle.std.proofs.Common.{sym, subst}
use Rattle.ct_consensus.specs.Ballot.{IsCounted, ProposalFits}
use Rattle.ct_consensus.proofs.ballot.Ballot.conclude.Goals as goal

pub returns-clause-counted : goal.returns-clause-counted
returns-clause-counted c = λ votes kept.
    c.close-proposed.ensures.counted c.args.seat.now.members votes (subst (IsCounted c.args.seat.now.members votes) (sym c.count_reply.ensures.proposal) kept)

pub returns-clause-fits : goal.returns-clause-fits
returns-clause-fits c = λ n fits. c.close-proposed.ensures.fits n (subst (ProposalFits n) (sym c.count_reply.ensures.proposal) fits)
