use Rattle.std.proofs.Common.{length}
use Rattle.batch_delivery.proofs.delivery.Delivery.+deliver_items.Given as goal

abbrev pub decreases-deliver_items : goal.decreases-deliver_items
decreases-deliver_items l = length l.items.now
