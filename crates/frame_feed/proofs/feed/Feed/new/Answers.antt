use Rattle.std.proofs.Common.{arith}
use Rattle.frame_feed.proofs.Amid.{starts}
use Rattle.frame_feed.proofs.feed.Feed.new.Goals as goal

pub invariant_of-result : goal.invariant_of-result
invariant_of-result c = starts c.new.result.items 0 (omega arith)
