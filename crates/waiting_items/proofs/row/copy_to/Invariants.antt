use Rattle.std.proofs.Common.{◌≡◌, ◌++◌, take}
use Rattle.waiting_items.proofs.row.copy_to.Given as goal

abbrev pub invariant-loop-item : goal.invariant-loop-item
invariant-loop-item l = l.copies.items ≡ l.initial.copies.items ++ take l.item-index l.items
