use Rattle.std.proofs.Common.{◌≡◌}
use Rattle.run_report.specs.Report.{by_origin}
use Rattle.run_report.proofs.absent.by_origin.Given as goal

abbrev pub invariant-loop-origin : goal.invariant-loop-origin
invariant-loop-origin l = l.sorted.items ≡ by_origin l.origin l.items
