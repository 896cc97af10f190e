use Rattle.std.proofs.Common.{length}
use Rattle.ct_consensus.proofs.ballot.+best.Given as goal

abbrev pub decreases-best : goal.decreases-best
decreases-best l = length l.rest.now
