use Rattle.std.proofs.Common.{ℕ, ◌<◌, length}
use Rattle.upd_base.specs.Plan.{steps_of}
use Rattle.run_journal.specs.Serving.{ServesThread}
use Rattle.run_journal.proofs.serving.serves.Given as goal

-- all threads so far ask for kinds that are served
abbrev pub invariant-loop-thread : goal.invariant-loop-thread
invariant-loop-thread g l = (t : ℕ) → t < l.thread → ServesThread g.O.Ordering.is_served l.plan t (length (steps_of l.plan t))
