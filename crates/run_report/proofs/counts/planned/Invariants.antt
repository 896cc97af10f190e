use Rattle.std.proofs.Common.{◌≡◌, take}
use Rattle.std.specs.List.{sum_by}
use Rattle.upd_base.specs.Plan.{steps_in}
use Rattle.run_report.proofs.counts.planned.Given as goal

abbrev pub invariant-loop-thread : goal.invariant-loop-thread
invariant-loop-thread l = l.calls ≡ sum_by steps_in (take l.thread l.plan.threads)
