use Rattle.std.proofs.Common.{◌≡◌, take}
use Rattle.std.specs.List.{flat_map}
use Rattle.run_report.specs.Report.{accepted_of}
use Rattle.run_report.proofs.absent.accepted_items.Given as goal

abbrev pub invariant-loop-event : goal.invariant-loop-event
invariant-loop-event l = l.items.items ≡ flat_map (accepted_of l.plan) (take l.event-index l.events)
