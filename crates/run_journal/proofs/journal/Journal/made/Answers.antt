use Rattle.std.proofs.Common.{◌∙◌}
use Rattle.group_world.specs.Seen.{seen_by}
use Rattle.run_journal.specs.Journal.{plan_of, past_of}
use Rattle.run_journal.proofs.Reading.{made_is}
use Rattle.run_journal.proofs.journal.Journal.made.Goals as goal

pub returns : goal.returns
returns g c = let j = c.args.self.now in c.made.ensures ∙ made_is g.O.Ordering (plan_of j) (seen_by j.world) (past_of j) c.args.thread j.stands
