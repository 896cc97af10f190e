use Rattle.group_world.specs.Seen.{seen_by}
use Rattle.group_world.specs.Moves.{MayMove}
use Rattle.group_world.specs.declared.moves.Move.TheVariants.{Receive, Release}
use Rattle.member_rules.specs.Kept.{rules_of}
use Rattle.group_world.proofs.Asked.{enabled_receive, enabled_release, carried}
use Rattle.group_world.proofs.world.World.enabled.Goals as goal

pub returns-in-Receive-clause-run : goal.returns-in-Receive-clause-run
returns-in-Receive-clause-run g c past st =
    carried (MayMove (rules_of g.O.Ordering) c.args.plan.now past) c.may_receive.result _ c.args.choice.now (Receive c.in-Receive.from c.in-Receive.to) c.may_receive.ensures c.in-Receive.is
    (enabled_receive g.O.Ordering c.args.plan.now (seen_by c.args.self.now) past c.in-Receive.from c.in-Receive.to c.requires st)

pub returns-in-Release-clause-run : goal.returns-in-Release-clause-run
returns-in-Release-clause-run g c past st =
    carried (MayMove (rules_of g.O.Ordering) c.args.plan.now past) c.may_release.result _ c.args.choice.now (Release c.in-Release.at) c.may_release.ensures.value c.in-Release.is
    (enabled_release g.O.Ordering c.args.plan.now (seen_by c.args.self.now) past c.in-Release.at c.requires st c.may_release.ensures.versions)
