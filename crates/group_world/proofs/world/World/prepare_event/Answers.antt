use Rattle.std.proofs.Common.{subst}
use Rattle.group_world.specs.Seen.{seen_by}
use Rattle.group_world.specs.Makes.{IsEventOf}
use Rattle.group_world.proofs.world.World.prepare_event.Goals as goal

pub returns-clause-event : goal.returns-clause-event
returns-clause-event g c = subst (λ a. IsEventOf (seen_by c.args.self.now) c.args.choice c.args.visit.at a c.event_for-event.result) c.answer.ensures c.event_for-event.ensures
