use Rattle.std.proofs.Common.{◌≡◌, ◌^◌, ◌-◌, min, take}
use Rattle.std.specs.List.{sum_by}
use Rattle.upd_base.specs.Plan.{change_count}
use Rattle.upd_base.proofs.plan.changes_of.Given as goal

abbrev pub invariant-loop-step : goal.invariant-loop-step
invariant-loop-step l = l.count ≡ min (sum_by (λ s. change_count s.call) (take l.step-index l.thread)) (2 ^ 64 - 1)
