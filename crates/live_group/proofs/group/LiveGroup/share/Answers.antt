use Rattle.std.proofs.Common.{ap, ◌∙◌}
use Rattle.run_journal.specs.Journal.{events_of}
use Rattle.live_group.specs.Recorded.{events_in}
use Rattle.live_group.proofs.Entries.{events_made}
use Rattle.live_group.proofs.group.LiveGroup.share.Goals as goal

pub returns-in-Ok-clause-seen : goal.returns-in-Ok-clause-seen
returns-in-Ok-clause-seen g c = let made = c.in-Ok.ensures in ap events_in made.seen ∙ (events_made _ ∙ ap (λ j. events_of j) c.of.ensures)
