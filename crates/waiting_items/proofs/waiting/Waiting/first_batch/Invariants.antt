use Rattle.std.proofs.Common.{◌≡◌, take}
use Rattle.upd_base.specs.declared.limits.TheConstants.{MAX_BATCH}
use Rattle.waiting_items.specs.Rows.{joined}
use Rattle.waiting_items.proofs.waiting.Waiting.first_batch.Given as goal

abbrev pub invariant-loop-row : goal.invariant-loop-row
invariant-loop-row l = l.items.items ≡ take MAX_BATCH (joined (take l.row-index l.row-items))
