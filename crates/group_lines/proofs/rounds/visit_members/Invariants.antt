use Rattle.std.proofs.Common.{ℕ, ◌≡◌, ◌<◌}
use Rattle.member_rules.specs.Kept.{rules_of}
use Rattle.group_run.specs.Run.{IsRelease}
use Rattle.run_journal.specs.Journal.{plan_of, past_of}
use Rattle.group_lines.specs.Visits.{IsIdle, IsNotFull, MadeMany}
use Rattle.group_lines.proofs.rounds.visit_members.Given as goal

abbrev pub invariant-loop-at : goal.invariant-loop-at
invariant-loop-at g l = record {
  plan : plan_of l.journal ≡ plan_of l.fn.journal;
  made : MadeMany (plan_of l.fn.journal) (past_of l.fn.journal) (past_of l.journal) IsNotFull;
  left : IsIdle (plan_of l.fn.journal) (past_of l.fn.journal) (past_of l.journal) → (at : ℕ) → at < l.at → IsRelease (rules_of g.O.Ordering) (plan_of l.fn.journal) (past_of l.fn.journal) at → ⊥;
}
