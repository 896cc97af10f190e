use Rattle.std.proofs.Common.{◌≡◌, ◌++◌, take}
use Rattle.run_report.specs.Report.{of_origin}
use Rattle.run_report.proofs.absent.push_of_origin.Given as goal

abbrev pub invariant-loop-item : goal.invariant-loop-item
invariant-loop-item l = l.out.items ≡ l.initial.out.items ++ of_origin (take l.item-index l.items) l.origin
