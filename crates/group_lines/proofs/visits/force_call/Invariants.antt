use Rattle.std.proofs.Common.{ℕ, ◌≡◌, ◌<◌, None}
use Rattle.run_journal.specs.Journal.{plan_of, past_of}
use Rattle.run_journal.specs.Causes.{next_call}
use Rattle.group_lines.proofs.visits.force_call.Given as goal

abbrev pub invariant-loop-thread : goal.invariant-loop-thread
invariant-loop-thread g l = record {
  plan : plan_of l.journal ≡ plan_of l.fn.journal;
  past : past_of l.journal ≡ past_of l.fn.journal;
  none : (thread : ℕ) → thread < l.thread → next_call (plan_of l.fn.journal) (past_of l.fn.journal) thread ≡ None;
}
