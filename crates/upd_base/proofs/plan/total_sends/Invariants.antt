use Rattle.std.proofs.Common.{◌≡◌, ◌^◌, ◌-◌, min, take}
use Rattle.std.specs.List.{sum_by}
use Rattle.upd_base.specs.Plan.{sends_in}
use Rattle.upd_base.proofs.plan.total_sends.Given as goal

abbrev pub invariant-loop-thread : goal.invariant-loop-thread
invariant-loop-thread l = l.count ≡ min (sum_by (λ t. sends_in t.items) (take l.thread-index l.threads)) (2 ^ 64 - 1)
