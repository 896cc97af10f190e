use Rattle.std.proofs.Common.{◌≡◌, drop}
use Rattle.member_rules.specs.Kept.{rules_of}
use Rattle.run_journal.specs.Journal.{plan_of, past_of}
use Rattle.rehearsal.specs.Rounds.{all_visited}
use Rattle.rehearsal.specs.Ends.{IsOnTheWay}
use Rattle.rehearsal.proofs.visit.visit_all.Given as goal

abbrev pub invariant-loop-choice : goal.invariant-loop-choice
invariant-loop-choice g l = record {
  plan : plan_of l.journal ≡ plan_of l.fn.journal;
  rest : all_visited (rules_of g.O.Ordering) (plan_of l.fn.journal) (past_of l.journal) (drop l.choice-index l.choices)
      ≡ all_visited (rules_of g.O.Ordering) (plan_of l.fn.journal) (past_of l.fn.journal) l.choices;
  grows : IsOnTheWay (past_of l.fn.journal) (past_of l.journal);
}
