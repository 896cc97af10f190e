use Rattle.std.proofs.Common.{◌≡◌, ◌^◌, ◌-◌, min, take}
use Rattle.std.specs.List.{sum_by}
use Rattle.upd_base.specs.Plan.{send_count}
use Rattle.upd_base.proofs.plan.sends_of.Given as goal

abbrev pub invariant-loop-step : goal.invariant-loop-step
invariant-loop-step l = l.count ≡ min (sum_by (λ s. send_count s.call) (take l.step-index l.thread)) (2 ^ 64 - 1)
