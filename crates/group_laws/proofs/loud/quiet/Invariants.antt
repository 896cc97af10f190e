use Rattle.std.proofs.Common.{take, reverse}
use Rattle.group_run.specs.Settled.{IsQuiet}
use Rattle.run_journal.specs.Journal.{plan_of, events_of}
use Rattle.group_laws.proofs.loud.quiet.Given as goal

abbrev pub invariant-loop-i : goal.invariant-loop-i
invariant-loop-i g l = IsQuiet (plan_of l.journal) (reverse (take l.i (events_of l.journal)))
