use Rattle.std.proofs.Common.{◌≡◌, take}
use Rattle.waiting_items.specs.Ids.{apart_from}
use Rattle.waiting_items.proofs.row.without.Given as goal

abbrev pub invariant-loop-item : goal.invariant-loop-item
invariant-loop-item l = l.left.items ≡ apart_from l.gone (take l.item-index l.items)
