use Rattle.std.proofs.Common.{◌≡◌, None}
use Rattle.group_run.specs.Part.{below}
use Rattle.run_journal.specs.Journal.{plan_of, past_of}
use Rattle.rehearsal.specs.Choices.{lowest_of}
use Rattle.rehearsal.proofs.visit.waiting_thread.Given as goal

abbrev pub invariant-loop-thread : goal.invariant-loop-thread
invariant-loop-thread g l = lowest_of (plan_of l.journal) (past_of l.journal) (below l.thread) ≡ None
