use Rattle.std.proofs.Common.{length}
use Rattle.upd_base.proofs.batch.+ascends.Given as goal

abbrev pub decreases-ascends : goal.decreases-ascends
decreases-ascends l = length l.items.now
