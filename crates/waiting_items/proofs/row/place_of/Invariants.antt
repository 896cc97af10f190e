use Rattle.std.proofs.Common.{length, ◌-◌, ◌≤◌, ◌≡◌, ◌++◌, take, drop}
use Rattle.consensus_rules.specs.Waiting.{insert}
use Rattle.waiting_items.proofs.row.place_of.Given as goal

-- those that were passed stand before the item
abbrev pub invariant-loop-place : goal.invariant-loop-place
invariant-loop-place l = (l.place ≤ length l.items) × (insert l.item l.items ≡ take l.place l.items ++ insert l.item (drop l.place l.items))

abbrev pub decreases-loop-place : goal.decreases-loop-place
decreases-loop-place l = length l.items - l.place
