use Rattle.std.proofs.Common.{◌≡◌, ◌≤◌, ◌+◌, drop, length, filter}
use Rattle.member_rules.specs.Kept.{rules_of}
use Rattle.run_journal.specs.Journal.{plan_of, past_of}
use Rattle.rehearsal.specs.Choices.{is_open}
use Rattle.rehearsal.proofs.draws.count_open.Given as goal

abbrev pub invariant-loop-choice : goal.invariant-loop-choice
invariant-loop-choice g l = record {
  within : l.count ≤ l.choice-index;
  rest : l.count + length (filter (is_open (rules_of g.O.Ordering) (plan_of l.journal) (past_of l.journal)) (drop l.choice-index l.all))
      ≡ length (filter (is_open (rules_of g.O.Ordering) (plan_of l.journal) (past_of l.journal)) l.all);
}
