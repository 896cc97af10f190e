use Rattle.std.proofs.Common.{◌≡◌}
use Rattle.std.specs.BTreeMap.{btree_map_len}
use Rattle.order_trait.specs.Outbox.{Grows, SendFits}
use Rattle.instance_table.specs.Seated.{AreSeated}
use Rattle.instance_table.proofs.Told.{ToldSoFar}
use Rattle.instance_table.proofs.table.Instances.suspect.Given as goal

abbrev pub invariant-loop-number : goal.invariant-loop-number
invariant-loop-number l =
    (l.self.members ≡ l.initial.self.members)
    × (l.self.me ≡ l.initial.self.me)
    × (l.self.suspected ≡ l.initial.self.suspected)
    × AreSeated l.initial.self.members l.initial.self.me l.rest.entries
    × ToldSoFar l.initial.self.members l.initial.self.me l.fn.who l.initial.self.suspected l.initial.rest.entries l.rest.entries l.self.running.entries l.initial.out l.out
    × Grows (SendFits l.initial.self.members) l.initial.out l.out

abbrev pub decreases-loop-number : goal.decreases-loop-number
decreases-loop-number l = btree_map_len l.rest
