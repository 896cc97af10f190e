use Rattle.std.proofs.Common.{ℕ, None, ◌≡◌, ◌<◌}
use Rattle.run_journal.specs.Journal.{plan_of, past_of}
use Rattle.run_journal.specs.Causes.{next_call}
use Rattle.run_journal.proofs.journal.Journal.calls_are_made.Given as goal

abbrev pub invariant-loop-thread : goal.invariant-loop-thread
invariant-loop-thread g l = (t : ℕ) → t < l.thread → next_call (plan_of l.self) (past_of l.self) t ≡ None
