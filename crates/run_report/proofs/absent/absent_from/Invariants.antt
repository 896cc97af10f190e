use Rattle.std.proofs.Common.{◌≡◌, take}
use Rattle.run_report.specs.Report.{absent_from}
use Rattle.run_report.proofs.absent.absent_from.Given as goal

abbrev pub invariant-loop-item : goal.invariant-loop-item
invariant-loop-item l = l.absent.items ≡ absent_from l.log (take l.item-index l.items)
