use Rattle.member_rules.proofs.Inputs.{grows_framed}
use Rattle.member_core.proofs.member.Member.entered.Goals as goal

pub returns-clause-fits : goal.returns-clause-fits
returns-clause-fits g c =
    grows_framed c.args.self.now.members c.args.version c.new-bodies.result c.enter.new.bodies c.args.sent.now.items c.frame_all.new.sent.items c.new-bodies.ensures (c.requires.low _ c.in-Some.is)
    c.in_ok-fresh.ensures.fits c.in_ok-frame_all.ensures
