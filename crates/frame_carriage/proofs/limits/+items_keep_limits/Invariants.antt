use Rattle.std.proofs.Common.{length}
use Rattle.frame_carriage.proofs.limits.+items_keep_limits.Given as goal

abbrev pub decreases-items_keep_limits : goal.decreases-items_keep_limits
decreases-items_keep_limits l = length l.items.now
