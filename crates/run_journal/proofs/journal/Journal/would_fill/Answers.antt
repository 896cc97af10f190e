use Rattle.std.proofs.Common.{sym}
use Rattle.run_journal.specs.Journal.{plan_of, past_of}
use Rattle.run_journal.proofs.Reading.{caller_fits}
use Rattle.run_journal.proofs.journal.Journal.would_fill.Goals as goal

pub fills-requires-after_bounds : goal.fills-requires-after_bounds
fills-requires-after_bounds g c = λ κs lives. let j = c.args.self.now in caller_fits (plan_of j) (past_of j) c.args.thread c.in-Some.step.now j.of_plan.of_plan (sym c.in-Some.ensures)
