use Rattle.std.proofs.Common.{◌≡◌, ◌≤◌, ◌++◌, length, take}
use Rattle.upd_base.specs.declared.limits.TheConstants.{MAX_BATCH}
use Rattle.waiting_items.proofs.row.add_first.Given as goal

abbrev pub invariant-loop-item : goal.invariant-loop-item
invariant-loop-item l = (l.items.items ≡ l.initial.items.items ++ take l.item-index l.more) × (length l.items.items ≤ MAX_BATCH)
