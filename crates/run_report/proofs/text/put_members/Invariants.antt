use Rattle.std.proofs.Common.{◌≡◌, ◌++◌}
use Rattle.std.specs.List.{flat_map}
use Rattle.member_rules.specs.Kept.{rules_of}
use Rattle.group_run.specs.Part.{below}
use Rattle.run_journal.specs.Journal.{plan_of, past_of}
use Rattle.run_report.specs.Report.{member_text}
use Rattle.run_report.proofs.text.put_members.Given as goal

abbrev pub invariant-loop-i : goal.invariant-loop-i
invariant-loop-i g l = l.out.items ≡ l.initial.out.items ++ flat_map (member_text (rules_of g.O.Ordering) (plan_of l.journal) (past_of l.journal) l.short) (below l.i)
