use Rattle.std.proofs.Common.{ap, subst}
use Rattle.order_trait.specs.Outbox.{Grows, SendFits}
use Rattle.member_rules.proofs.Inputs.{grows_framed}
use Rattle.member_core.proofs.steps.after_broadcast.Goals as goal

pub returns-clause-fits : goal.returns-clause-fits
returns-clause-fits g c =
    let members = ap (λ s. s.members) c.in_ok-next.ensures.seat in
    grows_framed (g.O.Ordering.seat c.args.ordering.now).members c.args.version c.new-bodies.result c.broadcast.new.out c.args.sent.now.items c.frame_all.new.sent.items c.new-bodies.ensures c.requires.low
    (subst (λ n. Grows (SendFits n) c.new-bodies.result c.broadcast.new.out) members c.in_ok-broadcast.ensures.fits) c.in_ok-frame_all.ensures
