use Rattle.std.proofs.Common.{◌≡◌, ◌<◌}
use Rattle.member_rules.specs.Kept.{rules_of}
use Rattle.run_journal.specs.Journal.{plan_of, past_of}
use Rattle.group_laws.specs.Canon.{longest_below}
use Rattle.group_laws.proofs.longest.canon.Given as goal

abbrev pub invariant-loop-i : goal.invariant-loop-i
invariant-loop-i g l = record {
  lead : l.lead ≡ longest_below (rules_of g.O.Ordering) (plan_of l.journal) (past_of l.journal) l.i;
  fits : l.lead < (plan_of l.journal).members;
}
