use Rattle.std.proofs.Common.{ℕ, ◌≡◌, List}
use Rattle.std.specs.BTreeMap.{btree_map_len}
use Rattle.upd_base.specs.Item.{ItemFits}
use Rattle.order_trait.specs.Outbox.{Grows}
use Rattle.instance_rules.specs.Say.{Items}
use Rattle.batch_delivery.specs.Delivery.{IsUpTo}
use Rattle.batch_delivery.proofs.Steps.{SoFar}
use Rattle.batch_delivery.proofs.delivery.Delivery.deliver.Given as goal

abbrev pub invariant-loop-batch : goal.invariant-loop-batch
invariant-loop-batch l =
    (l.self.members ≡ l.initial.self.members)
    × ((known items : Items) (ds : List (ℕ × Items)) → IsUpTo l.initial.self known items ds → SoFar l.initial.self l.self l.initial.delivered.items l.delivered.items known items ds)
    × Grows (ItemFits l.initial.self.members) l.initial.delivered.items l.delivered.items

abbrev pub decreases-loop-batch : goal.decreases-loop-batch
decreases-loop-batch l = btree_map_len l.self.ahead
