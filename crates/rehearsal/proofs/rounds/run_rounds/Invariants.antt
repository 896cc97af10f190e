use Rattle.std.proofs.Common.{ℕ, ◌≡◌, ◌≤◌, ◌+◌, ◌-◌, length}
use Rattle.upd_base.specs.Plan.{bound}
use Rattle.member_rules.specs.Kept.{rules_of}
use Rattle.run_journal.specs.Journal.{plan_of, past_of}
use Rattle.rehearsal.specs.Choices.{choices}
use Rattle.rehearsal.specs.Rounds.{round_robin, turns}
use Rattle.rehearsal.specs.Ends.{IsOnTheWay}
use Rattle.rehearsal.proofs.rounds.run_rounds.Given as goal

-- so many turns are left as make the rest of the schedule, and there is room for no more events
abbrev pub invariant-loop-choices : goal.invariant-loop-choices
invariant-loop-choices g l = record {
  plan : plan_of l.journal ≡ plan_of l.fn.journal;
  all : l.choices.items ≡ choices (plan_of l.fn.journal);
  grows : IsOnTheWay (past_of l.fn.journal) (past_of l.journal);
  few : length (past_of l.journal) ≤ bound (plan_of l.fn.journal);
  rest : (more : ℕ) × (bound (plan_of l.fn.journal) ≤ length (past_of l.journal) + more)
      × (turns (rules_of g.O.Ordering) (plan_of l.fn.journal) more (past_of l.journal) ≡ round_robin (rules_of g.O.Ordering) (plan_of l.fn.journal) (past_of l.fn.journal));
}

abbrev pub decreases-loop-choices : goal.decreases-loop-choices
decreases-loop-choices g l = bound (plan_of l.fn.journal) - length (past_of l.journal)
