use Rattle.ct_consensus.specs.Ballot.{IsKept}
use Rattle.ct_consensus.specs.Fit.{MayFit}
use Rattle.ct_consensus.proofs.Kept.{same_over}
use Rattle.ct_consensus.proofs.ballots.Ballots.copy.Goals as goal

pub returns-clause-kept : goal.returns-clause-kept
returns-clause-kept c = λ n r past. same_over c.args.self.now.members r c.args.self.now.over c.in_ok-copy.field-0 c.args.self.now.rounds c.in_ok-copy_of.field-0 c.in_ok-copy.ensures (IsKept n r past) (c.in_ok-copy_of.ensures.kept n r past)

pub returns-clause-fits : goal.returns-clause-fits
returns-clause-fits c = λ n fits r. same_over c.args.self.now.members r c.args.self.now.over c.in_ok-copy.field-0 c.args.self.now.rounds c.in_ok-copy_of.field-0 c.in_ok-copy.ensures (MayFit n) (c.in_ok-copy_of.ensures.fits n r) (fits r)
