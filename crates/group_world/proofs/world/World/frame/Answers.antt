use Rattle.group_world.specs.Seen.{seen_by}
use Rattle.group_world.proofs.Asked.{next_fits}
use Rattle.group_world.proofs.world.World.frame.Goals as goal

pub returns-clause-fits : goal.returns-clause-fits
returns-clause-fits g c plan w = next_fits g.O.Ordering plan (seen_by c.args.self.now) c.args.from c.args.to _ w c.requires.from_fits c.requires.to_fits c.next.ensures
