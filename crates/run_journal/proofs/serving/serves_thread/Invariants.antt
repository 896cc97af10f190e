use Rattle.run_journal.specs.Serving.{ServesThread}
use Rattle.run_journal.proofs.serving.serves_thread.Given as goal

abbrev pub invariant-loop-index : goal.invariant-loop-index
invariant-loop-index g l = ServesThread g.O.Ordering.is_served l.plan l.thread l.index
