use Rattle.std.proofs.Common.{◌≡◌, ◌≤◌, length, map, reverse, take}
use Rattle.upd_base.specs.Plan.{bound}
use Rattle.run_journal.specs.Journal.{plan_of, past_of}
use Rattle.journal_file.specs.Written.{event_written}
use Rattle.journal_file.proofs.replay.replay.Given as goal

abbrev pub invariant-loop-index : goal.invariant-loop-index
invariant-loop-index g l = record {
  plan : plan_of l.journal ≡ l.fn.plan;
  past : past_of l.journal ≡ reverse (map event_written (take l.index l.events));
}
