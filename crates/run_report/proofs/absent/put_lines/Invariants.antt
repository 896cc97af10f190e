use Rattle.std.proofs.Common.{◌≡◌, ◌++◌, take}
use Rattle.std.specs.List.{flat_map}
use Rattle.member_rules.specs.Kept.{rules_of}
use Rattle.run_journal.specs.Journal.{plan_of, past_of}
use Rattle.run_report.specs.Report.{absent_line}
use Rattle.run_report.proofs.absent.put_lines.Given as goal

abbrev pub invariant-loop-item : goal.invariant-loop-item
invariant-loop-item g l = l.out.items ≡ l.initial.out.items ++ flat_map (absent_line (rules_of g.O.Ordering) (plan_of l.journal) (past_of l.journal)) (take l.item-index l.items)
