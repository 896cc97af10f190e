use Rattle.std.proofs.Common.{refl}
use Rattle.ct_consensus.specs.Fit.{MayFit}
use Rattle.ct_consensus.proofs.Kept.{same_over}
use Rattle.ct_consensus.proofs.ballots.Ballots.put.Goals as goal

pub returns-then-not-is_over-clause-fits : goal.returns-then-not-is_over-clause-fits
returns-then-not-is_over-clause-fits c = λ n fits named r.
    same_over c.args.self.now.members r c.args.self.now.over c.args.self.now.over c.args.self.now.rounds c.put_in.new.rounds refl (MayFit n) (λ k. c.put_in.ensures.fits n r k named) (fits r)
