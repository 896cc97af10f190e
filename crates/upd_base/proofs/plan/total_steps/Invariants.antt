use Rattle.std.proofs.Common.{◌≡◌, ◌^◌, ◌-◌, min, take, length}
use Rattle.std.specs.List.{sum_by}
use Rattle.upd_base.proofs.plan.total_steps.Given as goal

abbrev pub invariant-loop-thread : goal.invariant-loop-thread
invariant-loop-thread l = l.count ≡ min (sum_by (λ t. length t.items) (take l.thread-index l.threads)) (2 ^ 64 - 1)
